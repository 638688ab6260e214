-- What the rules read in 32 bits is the float that they are.
use Rattle.std.proofs.Common.{◌≡◌, ℕ, zero, suc, ◌+◌, ◌*◌, ◌^◌, ◌≤◌, Bool, true, false, cond, not, T, eqb, ◌⊎◌, refl, inl, inr, mul-le-mul, mul-one, arith, pow_mono, eqb-true}
use native.Mathlib.Nat.{pow-succ'}
use lib.Dec.{eqb-suc-zero}
use lib.Pow.{field}
use lib.Ieee.{Float, nan, inf, fin, binary32, odd, of_fields, of_bits}
use lib.Ieee.Exact.{HasValue, odd_sign}
use lib.Ieee.Scale.{finite}
use Rattle.base.specs.Choice.{pick}
use Rattle.rules.specs.Meter.{is_negative, exponent_of, fraction_of, magnitude_of, part1024}

-- a float of sign s and a / 1024 times the given part in size, or one that is not finite, and a past every reading
abbrev pub Reads : ℕ → Float → Bool → ℕ → Type 0
Reads part x s a = (T (not (finite x)) × (8192 * part ≤ a)) ⊎ HasValue x s a (1024 * part)

twice : (x : Float) (s : Bool) (a c : ℕ) → HasValue x s a c → HasValue x s (2 * a) (2 * c)
twice nan s a c v = elim v [ ]
twice (inf _) s a c v = elim v [ ]
twice (fin t m e) s a c v = (v.0, (let q = v.1 in omega arith))

doubled : (q e : ℕ) → 2 * (q * 2 ^ e) ≡ q * 2 ^ suc e
doubled q e = rw (pow-succ' 2 e) (omega arith)

abbrev size : ℕ → ℕ → ℕ
size e t = pick (eqb e 0) (2 * t) ((2 ^ 23 + t) * 2 ^ e)

fields_read : (s : Bool) (e t : ℕ) → Reads part1024 (of_fields binary32 s e t) s (size e t)
unfolding of_fields
fields_read s zero t = inr (rw mul-one at (twice (odd 24 s t 0 149) s (t * 2 ^ 0) (2 ^ 149) (odd_sign 24 s t 0 149)))
fields_read s (suc e) t = rw (eqb-suc-zero e) (known (eqb (suc e) 255) refl)
  where
    known : (b : Bool) → eqb (suc e) 255 ≡ b
        → Reads part1024 (cond b (cond (eqb t 0) (inf s) nan) (odd 24 s (2 ^ 23 + t) e 149)) s ((2 ^ 23 + t) * 2 ^ suc e)
    known true h = inl (outside (eqb t 0), rw (eqb-true (suc e) 255 h) past)
      where
        outside : (b : Bool) → T (not (finite (cond b (inf s) nan)))
        outside true = tt
        outside false = tt

        past : 8192 * part1024 ≤ (2 ^ 23 + t) * 2 ^ 255
        past = mul-le-mul {n₁ = 8192} {m₁ = 2 ^ 140} {n₂ = 2 ^ 23 + t} {m₂ = 2 ^ 255} (omega arith) (pow_mono {i = 140} {j = 255} (omega arith))
    known false h =
        let q = 2 ^ 23 + t in inr (rw (doubled q e) at (twice (odd 24 s q e 149) s (q * 2 ^ e) (2 ^ 149) (odd_sign 24 s q e 149)))

pub bits_read : (bits : ℕ) → Reads part1024 (of_bits binary32 bits) (is_negative bits) (magnitude_of bits)
unfolding of_bits magnitude_of
bits_read bits = rw (field bits 8 23) (fields_read (is_negative bits) (exponent_of bits) (fraction_of bits))
