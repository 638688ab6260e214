-- Digits that are read one after another, while 64 bits hold their value.
use Rattle.std.proofs.Common.{Bool, true, false, ℕ, ◌+◌, ◌-◌, ◌*◌, ◌^◌, ◌≤◌, ◌<◌, ◌≡◌, ◌⊎◌, List, [], ◌∷◌, Option, None, Some, sym, ap, ◌∙◌, inl, inr, refl, arith}
use Rattle.std.specs.Option.{SomeIff, option_and_then}
use borrow.Author.Tests.{le-leb, lt-leb, le-ltb, lt-ltb, ltb-true}
use lib.Dec.{ltb}
use Rattle.base.specs.Choice.{only}
use Rattle.base.specs.Text.{value_from, going_on, held}
use Rattle.base.proofs.Parts.{value_append, held_way}
use Rattle.base.proofs.Folds.{folded}

module _ (v b : ℕ) where
  pub not_held : (b < 48) ⊎ (57 < b) → held (value_from v (b ∷ [])) ≡ None
  unfolding held value_from
  not_held (inl h) = rw (lt-leb 48 b h)
  not_held (inr h) = let g : 48 ≤ b = omega arith in rw (le-leb 48 b g, lt-leb b 57 h)

  -- one digit more, where the sum fits
  pub digit_held : (r : Option ℕ) → 48 ≤ b → b ≤ 57 → SomeIff r (v * 10 + (b - 48) < 2 ^ 64) (v * 10 + (b - 48)) → r ≡ held (value_from v (b ∷ []))
  unfolding held value_from
  digit_held None l h s = let g : 2 ^ 64 ≤ v * 10 + (b - 48) = omega arith in rw (le-leb 48 b l, le-leb b 57 h, le-ltb (v * 10 + (b - 48)) (2 ^ 64) g)
  digit_held (Some x) l h s = rw (le-leb 48 b l, le-leb b 57 h, lt-ltb (v * 10 + (b - 48)) (2 ^ 64) s.0, s.1)

  -- ten times the value fits no more
  pub over_held : ¬ (v * 10 < 2 ^ 64) → 48 ≤ b → b ≤ 57 → held (value_from v (b ∷ [])) ≡ None
  over_held k l h = sym (digit_held None l h (λ s. k (omega arith)))

held_fits : (o : Option ℕ) (n : ℕ) → held o ≡ Some n → n < 2 ^ 64
unfolding held
held_fits None n e = cc
held_fits (Some v) n e = go (ltb v (2 ^ 64)) refl e
  where
    go : (t : Bool) → ltb v (2 ^ 64) ≡ t → only t v ≡ Some n → n < 2 ^ 64
    go true t e = let s : v ≡ n = cc in omega (arith, ltb-true v (2 ^ 64) t)
    go false t e = cc

-- digit by digit it is the same value
pub digits_folded : (bs : List ℕ) (v : ℕ) → v < 2 ^ 64 → folded (λ v b. held (value_from v (b ∷ []))) v bs ≡ held (value_from v bs)
unfolding value_from held going_on
digits_folded [] v l = rw (lt-ltb v (2 ^ 64) l)
digits_folded (b ∷ bs) v l = go (λ w. digits_folded bs w) (held (value_from v (b ∷ []))) refl ∙ held_way (value_from v (b ∷ [])) bs ∙ sym (ap held (value_append (b ∷ []) bs v))
  where
    go : ((w : ℕ) → w < 2 ^ 64 → folded (λ v b. held (value_from v (b ∷ []))) w bs ≡ held (value_from w bs)) → (o : Option ℕ) → held (value_from v (b ∷ [])) ≡ o
        → option_and_then (λ w. folded (λ v b. held (value_from v (b ∷ []))) w bs) o ≡ held (going_on o bs)
    go k None e = refl
    go k (Some w) e = k w (held_fits (value_from v (b ∷ [])) w e)
