-- Digits that are read one after another, 20 at most.
use Rattle.std.proofs.Common.{Bool, cond, true, false, eqb, ℕ, zero, suc, ◌+◌, ◌-◌, ◌*◌, ◌^◌, ◌≤◌, ◌<◌, ◌≡◌, ◌⊎◌, inl, inr, List, [], ◌∷◌, None, Some, length, get_or, drop, drop-cons, drop_of_length-le, sym, ap, ◌∙◌, refl, add-zero, arith}
use borrow.Author.Tests.{le-leb, lt-leb, eq-eqb, ne_eqb, eqb-true, eqb-false}
use native.Mathlib.Nat.{pow-succ'}
use Rattle.std.specs.List.{starts_with}
use Rattle.base.specs.Text.{value_from}
use Rattle.texts.specs.Numbers.{has_minus, behind_minus, size_of}

-- ---- the value

pub read_on : (ds : List ℕ) (i v : ℕ) → i < length ds → 48 ≤ get_or ds i 0 → get_or ds i 0 ≤ 57
    → value_from v (drop i ds) ≡ value_from (v * 10 + (get_or ds i 0 - 48)) (drop (i + 1) ds)
unfolding value_from
read_on ds i v h l u = let s : i + 1 ≡ suc i = omega arith in ap (value_from v) (drop-cons ds i 0 h) ∙ (rw (s, le-leb 48 (get_or ds i 0) l, le-leb (get_or ds i 0) 57 u))

no_digit : (b v : ℕ) (bs : List ℕ) → (b < 48) ⊎ (57 < b) → value_from v (b ∷ bs) ≡ None
unfolding value_from
no_digit b v bs (inl h) = rw (lt-leb 48 b h)
no_digit b v bs (inr h) = let g : 48 ≤ b = omega arith in rw (le-leb 48 b g, lt-leb b 57 h)

pub stops : (ds : List ℕ) (i v : ℕ) → i < length ds → (get_or ds i 0 < 48) ⊎ (57 < get_or ds i 0) → value_from v (drop i ds) ≡ None
stops ds i v h bad = ap (value_from v) (drop-cons ds i 0 h) ∙ no_digit (get_or ds i 0) v (drop (suc i) ds) bad

pub ends : (ds : List ℕ) (i v : ℕ) → length ds ≤ i → value_from v (drop i ds) ≡ Some v
unfolding value_from
ends ds i v h = ap (value_from v) (drop_of_length-le ds {i = i} h)

pub no_size : (ds : List ℕ) → (length ds < 1) ⊎ (20 < length ds) → size_of ds ≡ None
unfolding size_of
no_size ds (inl h) = rw (lt-leb 1 (length ds) h)
no_size ds (inr h) = let g : 1 ≤ length ds = omega arith in rw (le-leb 1 (length ds) g, lt-leb (length ds) 20 h)

pub sized : (ds : List ℕ) → 1 ≤ length ds → length ds ≤ 20 → size_of ds ≡ value_from 0 ds
unfolding size_of
sized ds l u = rw (le-leb 1 (length ds) l, le-leb (length ds) 20 u)

-- ---- the bound

pub ten_le : (k i : ℕ) → 10 ^ i ≤ 10 ^ (i + k)
ten_le zero i = rw add-zero (omega arith)
ten_le (suc k) i =
    let e : i + suc k ≡ suc (i + k) = omega arith in
    let p = pow-succ' 10 (i + k) in
    let q = ten_le k i in
    rw e (omega arith)

pub grows : (v i b : ℕ) → v < 10 ^ i → b ≤ 9 → v * 10 + b < 10 ^ (i + 1)
grows v i b h l = let e : i + 1 ≡ suc i = omega arith in let p = pow-succ' 10 i in rw e (omega arith)

pub few : (v i : ℕ) → i ≤ 20 → v < 10 ^ i → v < 10 ^ 20
few v i h l = let e : i + (20 - i) ≡ 20 = omega arith in let q = ten_le (20 - i) i in let r : 10 ^ i ≤ 10 ^ 20 = rw e at q in omega arith

-- ---- the sign

-- a '-' in front, and what stands behind it
sign : (t : Bool) (b : ℕ) (bs : List ℕ) → eqb b 45 ≡ t → (t ≡ has_minus (b ∷ bs)) × (cond t bs (b ∷ bs) ≡ behind_minus (b ∷ bs))
unfolding has_minus behind_minus
sign true b bs e = rw e (refl, refl)
sign false b bs e = rw e (refl, refl)

pub minus : (w : List ℕ) → true ≡ starts_with eqb w (45 ∷ []) → (true ≡ has_minus w) × (drop 1 w ≡ behind_minus w)
minus [] h = cc
minus (b ∷ bs) h = go (eqb 45 b) refl
  where
    go : (t : Bool) → eqb 45 b ≡ t → (true ≡ has_minus (b ∷ bs)) × (bs ≡ behind_minus (b ∷ bs))
    go true e = sign true b bs (eq-eqb b 45 (sym (eqb-true 45 b e)))
    go false e = let k = rw e at h in cc

pub no_minus : (w : List ℕ) → false ≡ starts_with eqb w (45 ∷ []) → (false ≡ has_minus w) × (w ≡ behind_minus w)
unfolding has_minus behind_minus
no_minus [] h = (refl, refl)
no_minus (b ∷ bs) h = go (eqb 45 b) refl
  where
    go : (t : Bool) → eqb 45 b ≡ t → (false ≡ has_minus (b ∷ bs)) × (b ∷ bs ≡ behind_minus (b ∷ bs))
    go true e = let k = rw e at h in cc
    go false e = sign false b bs (ne_eqb b 45 (λ q. eqb-false 45 b e (sym q)))
