-- Parts of bytes, by the place of the first byte that passes a test, as the library's iterators find it.
use Rattle.std.proofs.Common.{ℕ, suc, ◌+◌, ◌≡◌, Bool, true, false, cond, not, nat_eq, List, [], ◌∷◌, length, drop, unwrap_or, position, refl, ap, ◌∙◌, arith}
use Rattle.std.specs.List.{position_or_len}
use Rattle.std.proofs.lemmas.List.Sums.{prefix_len-le-length}
use Rattle.base.specs.Choice.{pick}
use Rattle.base.specs.Text.{up_to, skipped}

-- how many bytes stand before the first that passes
abbrev pub before : (ℕ → Bool) → List ℕ → ℕ
before test bs = unwrap_or (position test bs) (length bs)

before_is : (test : ℕ → Bool) (bs : List ℕ) → before test bs ≡ position_or_len test bs
before_is test bs = grind (arith, prefix_len-le-length (λ x. not (test x)) bs)

up_length : (b : ℕ) (bs : List ℕ) → position_or_len (λ x. nat_eq x b) bs ≡ length (up_to b bs)
unfolding up_to
up_length b [] = refl
up_length b (x ∷ bs) = grind (arith, up_length b bs)

skip_drops : (b : ℕ) (bs : List ℕ) → drop (position_or_len (λ x. not (nat_eq x b)) bs) bs ≡ skipped b bs
unfolding skipped
skip_drops b [] = refl
skip_drops b (x ∷ bs) = go (nat_eq x b) (skip_drops b bs)
  where
    n : ℕ
    n = position_or_len (λ x. not (nat_eq x b)) bs

    go : (t : Bool) → drop n bs ≡ skipped b bs → drop (cond (not (not t)) (1 + n) 0) (x ∷ bs) ≡ pick t (skipped b bs) (x ∷ bs)
    go true h = let e : 1 + n ≡ suc n = omega arith in rw e h
    go false h = refl

pub up_found : (b : ℕ) (bs : List ℕ) → before (λ x. nat_eq x b) bs ≡ length (up_to b bs)
up_found b bs = before_is (λ x. nat_eq x b) bs ∙ up_length b bs

pub skip_found : (b : ℕ) (bs : List ℕ) → drop (before (λ x. not (nat_eq x b)) bs) bs ≡ skipped b bs
skip_found b bs = ap (λ n. drop n bs) (before_is (λ x. not (nat_eq x b)) bs) ∙ skip_drops b bs
