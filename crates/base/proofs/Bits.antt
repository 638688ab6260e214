-- Bits by shift and mask: one tested, one set, one cleared.
use Prim.Native.Nat.{ℕ, suc, zero, ◌+◌, ◌-◌, ◌*◌, ◌/◌, ◌%◌, ◌^◌, ◌≤◌, ◌<◌}
use mathlib.Core.Path.{◌≡◌, ap}
use native.Mathlib.Nat.{mod-eq_of_lt, one-mul}
use native.Mathlib.Omega.{arith}
use borrow.Author.Tests.{lt-ltb, le-ltb}
use lib.Dec.{eqb}
use lib.Pow.{pow-lt}
use lib.Bits.{bit_and, bit_or, and_mask, or_add_and}
use Rattle.std.proofs.lemmas.Nat.{and-not, and_comm}
use Rattle.std.proofs.lemmas.Nat.Bits.{and_pow}
use Rattle.base.specs.Bits.{is_set, set_bit, clear_bit}

-- (m >> n) & 1 == 1
pub tested_by_shift : (m n : ℕ) → eqb (bit_and (m / 2 ^ n) 1) 1 ≡ is_set m n
tested_by_shift m n = ap (λ (b : ℕ). eqb b 1) (and_mask (m / 2 ^ n) 1)

-- 1 << n, in 64 bits
shifted : (n : ℕ) → n < 64 → 1 * 2 ^ n % 2 ^ 64 ≡ 2 ^ n
shifted n h = rw one-mul (mod-eq_of_lt (pow-lt h))

-- b is the bit that was there; `|` and `&` add up to the two operands
or_of : (o a m p b : ℕ) → b < 2 → o + a ≡ m + p → a ≡ b * p → o ≡ m + (1 - b) * p
or_of o a m p zero hb e h = omega arith
or_of o a m p (suc zero) hb e h = omega arith
or_of o a m p (suc (suc b)) hb e h = omega arith

-- m | (1 << n)
pub set_by_or : (m n : ℕ) → n < 16 → bit_or m (1 * 2 ^ n % 2 ^ 64) ≡ set_bit m n
unfolding set_bit
set_by_or m n h =
    rw (shifted n (omega arith), lt-ltb n 16 h) (or_of _ _ m (2 ^ n) _ (omega arith) (or_add_and m (2 ^ n)) (and_pow m n))

-- m & !(1 << n)
pub cleared_by_and : (m n : ℕ) → n < 16 → m < 2 ^ 64 → bit_and m (2 ^ 64 - 1 - 1 * 2 ^ n % 2 ^ 64) ≡ clear_bit m n
unfolding clear_bit
cleared_by_and m n h hm =
    let small : n < 64 = omega arith in
    rw (shifted n small, lt-ltb n 16 h) (omega (arith, and-not 64 (2 ^ n) m (pow-lt small) hm, and_comm m (2 ^ n), and_comm m (2 ^ 64 - 1 - 2 ^ n), and_pow m n))

-- a mask has 16 bits
pub not_set : (m n : ℕ) → 16 ≤ n → set_bit m n ≡ m
unfolding set_bit
not_set m n h = rw (le-ltb n 16 h)

pub not_cleared : (m n : ℕ) → 16 ≤ n → clear_bit m n ≡ m
unfolding clear_bit
not_cleared m n h = rw (le-ltb n 16 h)
