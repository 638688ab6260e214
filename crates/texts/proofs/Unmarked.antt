-- Bytes among which there is no mark.
use Rattle.std.proofs.Common.{ℕ, ◌≡◌, Bool, true, false, eqb, List, [], ◌∷◌, ◌++◌, refl}
use Rattle.std.specs.List.{All}
use Rattle.std.proofs.lemmas.List.Elements.{All-head, All-tail}
use Rattle.base.specs.Text.{up_to}
use Rattle.texts.specs.Words.{parts}

abbrev pub Unmarked : (ℕ → Bool) → List ℕ → Type 0
Unmarked m bs = All (λ b. m b ≡ false) bs

module _ (m : ℕ → Bool) where
  head : (b : ℕ) (bs : List ℕ) → Unmarked m (b ∷ bs) → m b ≡ false
  head b bs h = All-head (λ x. m x ≡ false) b bs h

  tail : (b : ℕ) (bs : List ℕ) → Unmarked m (b ∷ bs) → Unmarked m bs
  tail b bs h = All-tail (λ x. m x ≡ false) b bs h

  -- up to a mark they are a part
  pub part_ends : (bs : List ℕ) (b : ℕ) (rest : List ℕ) → Unmarked m bs → m b ≡ true → parts m (bs ++ b ∷ rest) ≡ bs ∷ parts m rest
  unfolding parts
  part_ends [] b rest h e = rw e refl
  part_ends (c ∷ cs) b rest h e = rw (part_ends cs b rest (tail c cs h) e, head c cs h) refl

  -- and with nothing behind them they are the last
  pub part_alone : (b : ℕ) (bs : List ℕ) → Unmarked m (b ∷ bs) → parts m (b ∷ bs) ≡ (b ∷ bs) ∷ []
  unfolding parts
  part_alone b [] h = rw (head b [] h) refl
  part_alone b (c ∷ cs) h = rw (part_alone c cs (tail b (c ∷ cs) h), head b (c ∷ cs) h) refl

-- what is read up to a byte goes on past others
pub up_past : (b : ℕ) (bs rest : List ℕ) → Unmarked (λ x. eqb x b) bs → up_to b (bs ++ rest) ≡ bs ++ up_to b rest
unfolding up_to
up_past b [] rest h = refl
up_past b (x ∷ xs) rest h = rw (head (λ y. eqb y b) x xs h, up_past b xs rest (tail (λ y. eqb y b) x xs h)) refl
