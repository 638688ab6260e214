-- How many digits a number has, and what each is; read back they are the number, with no 0 in front.
use Prim.Native.Nat.{ℕ, zero, suc, ◌+◌, ◌-◌, ◌*◌, ◌/◌, ◌%◌, ◌^◌, ◌≤◌, ◌<◌}
use mathlib.Core.Bool.{Bool, true, false}
use mathlib.Core.Path.{◌≡◌, refl, ap}
use mathlib.Core.List.{List, [], ◌∷◌, ◌++◌}
use Rattle.std.specs.Prelude.{Option, None, Some}
use native.Mathlib.Nat.{pow-succ'}
use native.Mathlib.Omega.{arith}
use lib.Dec.{ltb}
use lib.ListN.{length, take, drop, get_or, length-append}
use lib.Seq.{take-append_seam}
use borrow.Author.Tests.{ltb-true, ltb-false}
use Rattle.base.specs.Choice.{pick}
use Rattle.base.specs.Over.{between}
use Rattle.base.specs.Text.{digits_of, decimal, value_from, Writes, Put}
use Rattle.base.proofs.Choice.{between_yes}
use Rattle.base.proofs.Each.{Each, each_none, each_cons, each_append}
use Rattle.base.proofs.Text.{decimal_small}

-- ---- reading

-- a digit
value_one : (v d : ℕ) {n : ℕ} → d < 10 → v * 10 + d ≡ n → value_from v ((48 + d) ∷ []) ≡ Some n
unfolding value_from
value_one v d {n} h e = rw (between_yes 48 57 (48 + d) (omega arith) (omega arith)) (ap (λ (x : ℕ). Some x) (omega arith))

-- what a byte that is read hands on
handed : (t : Bool) (x y : Option ℕ) {w z : ℕ} → (x ≡ Some w → y ≡ Some z) → pick t x None ≡ Some w → pick t y None ≡ Some z
handed true x y on e = on e
handed false x y on e = cc

-- digits and one more
value_more : (bs : List ℕ) (v d : ℕ) {w n : ℕ} → d < 10 → w * 10 + d ≡ n → value_from v bs ≡ Some w → value_from v (bs ++ ((48 + d) ∷ [])) ≡ Some n
unfolding value_from
value_more [] v d {w} h e f =
    let same : v ≡ w = cc in
    value_one v d h (omega arith)
value_more (b ∷ bs) v d h e f =
    let next = v * 10 + (b - 48) in
    handed (between 48 57 b) (value_from next bs) (value_from next (bs ++ ((48 + d) ∷ []))) (value_more bs next d h e) f

-- ---- the digits of n

-- what holds of a digit alone, and of the digits of a tenth with one more, holds of all
digits_by : (P : List ℕ → Type 0) (k n : ℕ) → (n < 10 → P ((48 + n) ∷ [])) → (10 ≤ n → P (digits_of k (n / 10) ++ ((48 + n % 10) ∷ []))) → P (digits_of (suc k) n)
unfolding digits_of
digits_by P k n small large = known (ltb n 10) refl
  where
    known : (t : Bool) → ltb n 10 ≡ t → P (pick t ((48 + n) ∷ []) (digits_of k (n / 10) ++ ((48 + n % 10) ∷ [])))
    known true e = small (ltb-true n 10 e)
    known false e = large (ltb-false n 10 e)

tenth : (k n : ℕ) → n < 10 ^ suc k → n / 10 < 10 ^ k
tenth k n l = let e = pow-succ' 10 k in omega arith

-- a tenth has one digit fewer
digits_within : (f k n : ℕ) → n < 10 ^ suc k → length (digits_of f n) ≤ suc k
unfolding digits_of
digits_within zero k n l = omega arith
digits_within (suc f) zero n l = digits_by (λ (bs : List ℕ). length bs ≤ 1) f n (λ h. omega arith) (λ h. absurd (omega arith))
digits_within (suc f) (suc k) n l =
    digits_by (λ (bs : List ℕ). length bs ≤ suc (suc k)) f n
    (λ h. omega arith)
    (λ h. omega (arith, digits_within f k (n / 10) (tenth (suc k) n l), length-append (digits_of f (n / 10)) ((48 + n % 10) ∷ [])))

-- a number below 10 ^ k has at most k digits
pub decimal_within : (k n : ℕ) → 1 ≤ k → n < 10 ^ k → length (decimal n) ≤ k
unfolding decimal
decimal_within zero n one l = absurd (omega arith)
decimal_within (suc k) n one l = digits_within 20 k n l

-- what holds of each digit
module _ (P : ℕ → Type 0) (z : ℕ) (None : P z) (digit : (x : ℕ) → x < 10 → P (48 + x)) where
  one_each : (x : ℕ) → x < 10 → Each P z ((48 + x) ∷ [])
  one_each x h = each_cons P z (48 + x) [] (digit x h) (each_none P z None)

  digits_each : (k n : ℕ) → Each P z (digits_of k n)
  unfolding digits_of
  digits_each zero n = each_none P z None
  digits_each (suc k) n =
      digits_by (λ (bs : List ℕ). Each P z bs) k n (one_each n)
      (λ h. each_append P z (digits_of k (n / 10)) ((48 + n % 10) ∷ []) (digits_each k (n / 10)) (one_each (n % 10) (omega arith)))

  pub decimal_each : (n : ℕ) → Each P z (decimal n)
  unfolding decimal
  decimal_each n = digits_each 20 n

digits_value : (k n : ℕ) → n < 10 ^ k → value_from 0 (digits_of k n) ≡ Some n
unfolding digits_of value_from
digits_value zero n l = ap (λ (x : ℕ). Some x) (omega arith)
digits_value (suc k) n l =
    digits_by (λ (bs : List ℕ). value_from 0 bs ≡ Some n) k n
    (λ h. value_one 0 n h (omega arith))
    (λ h. value_more (digits_of k (n / 10)) 0 (n % 10) (omega arith) (omega arith) (digits_value k (n / 10) (tenth k n l)))

-- what begins with a digit above 0 does so with more behind it
begins : (xs ys : List ℕ) → 49 ≤ get_or xs 0 0 → 49 ≤ get_or (xs ++ ys) 0 0
begins [] ys h = omega arith
begins (x ∷ xs) ys h = h

digits_first : (k n : ℕ) → n < 10 ^ k → 1 ≤ n → 49 ≤ get_or (digits_of k n) 0 0
digits_first zero n l p = omega arith
digits_first (suc k) n l p =
    digits_by (λ (bs : List ℕ). 49 ≤ get_or bs 0 0) k n
    (λ h. omega arith)
    (λ h. begins (digits_of k (n / 10)) ((48 + n % 10) ∷ []) (digits_first k (n / 10) (tenth k n l) (omega arith)))

-- a number of 64 bits
decimal_writes : (n : ℕ) → n < 2 ^ 64 → Writes (decimal n) n
unfolding decimal
decimal_writes n l =
    record {
      value = digits_value 20 n (omega arith);
      first = digits_first 20 n (omega arith);
      alone = λ e. rw e (decimal_small 0 (omega arith));
    }

-- so it is with what is put to the front of a buffer
pub put_writes : {n : ℕ} {old new : List ℕ} {r : ℕ} → n < 2 ^ 64 → Put (decimal n) old new r → Writes (take r new) n
put_writes {n} {old} l p = rw (p.count, p.bytes, take-append_seam (decimal n) (drop (length (decimal n)) old)) (decimal_writes n l)
