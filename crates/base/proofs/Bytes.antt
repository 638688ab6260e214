-- Laws of numbers as bytes, over the width.
use Prim.Native.Nat.{ℕ, zero, suc, ◌+◌, ◌*◌, ◌/◌, ◌%◌, ◌^◌, ◌≤◌, ◌<◌}
use mathlib.Core.Path.{◌≡◌, refl, sym, ap, ◌∙◌}
use mathlib.Core.List.{List, [], ◌∷◌, ◌++◌}
use native.Mathlib.Nat.{pow-succ'}
use native.Mathlib.Omega.{arith}
use lib.ListN.{length, take, drop}
use lib.Seq.{length-take-le, get_or-drop, get_or-append-add}
use Rattle.base.specs.Bytes.{Bytes, bytes_of, number_of}

pub length_bytes : (w v : ℕ) → length (bytes_of w v) ≡ w
length_bytes zero v = refl
length_bytes (suc w) v = ap suc (length_bytes w (v / 256))

-- what is written is read back
pub number_bytes_lem : (w v : ℕ) → v < 256 ^ w → number_of (bytes_of w v) ≡ v
number_bytes_lem zero v h = omega arith
number_bytes_lem (suc w) v h =
    let e = pow-succ' 256 w in
    let k : v / 256 < 256 ^ w = omega arith in
    let r = number_bytes_lem w (v / 256) k in
    omega arith

-- what is read is written back
bytes_number : (bs : List ℕ) → Bytes bs → bytes_of (length bs) (number_of bs) ≡ bs
bytes_number [] h = refl
bytes_number (b ∷ bs) h =
    let hb : b < 256 = h zero in
    let m : (b + 256 * number_of bs) % 256 ≡ b = omega arith in
    let d : (b + 256 * number_of bs) / 256 ≡ number_of bs = omega arith in
    rw (m, d, bytes_number bs (λ i. h (suc i)))

-- ---- parts of bytes

pub bytes_drop : (n : ℕ) (bs : List ℕ) → Bytes bs → Bytes (drop n bs)
bytes_drop n bs h i = rw (get_or-drop n bs i 0) (h (n + i))

pub bytes_suffix : (a b : List ℕ) → Bytes (a ++ b) → Bytes b
bytes_suffix a b h i = rw (get_or-append-add a b i 0) at (h (length a + i))

bytes_take : (n : ℕ) (bs : List ℕ) → Bytes bs → Bytes (take n bs)
bytes_take zero bs h i = omega arith
bytes_take (suc n) [] h i = h i
bytes_take (suc n) (b ∷ bs) h zero = h zero
bytes_take (suc n) (b ∷ bs) h (suc i) = bytes_take n bs (λ j. h (suc j)) i

-- the first w bytes are those of the number that they stand for, which is below 256 ^ w
pub front_bytes : (w : ℕ) (bs : List ℕ) → Bytes bs → w ≤ length bs → bytes_of w (number_of (take w bs)) ≡ take w bs
front_bytes w bs h l = ap (λ (k : ℕ). bytes_of k (number_of (take w bs))) (sym (length-take-le w bs l)) ∙ bytes_number (take w bs) (bytes_take w bs h)
