-- A number as it is printed is read as itself.
use Rattle.std.proofs.Common.{ℕ, suc, ◌^◌, ◌≤◌, ◌<◌, ◌≡◌, Bool, true, false, eqb, List, [], ◌∷◌, ◌++◌, length, drop, nat_abs, ℤ, pos, negsuc, neg_ℤ, Some, refl, sym, arith}
use borrow.Author.Tests.{eqb-true}
use mathlib.Core.Path.{subst}
use Rattle.base.proofs.Digits.{put_writes}
use Rattle.base.proofs.Text.{decimal_few, put_taken}
use Rattle.base.specs.Text.{decimal, value_from, Writes, Put}
use Rattle.texts.specs.Numbers.{minus_sign, written, has_minus, behind_minus, value_of}
use Rattle.texts.proofs.Digits.{sized}

-- digits do not begin with a '-'
module _ (b : ℕ) (bs : List ℕ) (n : ℕ) (e : value_from 0 (b ∷ bs) ≡ Some n) where
  no_sign : eqb b minus_sign ≡ false
  unfolding value_from
  no_sign = go (eqb b minus_sign) refl
    where
      go : (t : Bool) → eqb b minus_sign ≡ t → t ≡ false
      go false q = refl
      go true q = let h = eqb-true b minus_sign q in absurd (cc (rw h at e))

  digits_read : length (b ∷ bs) ≤ 20 → value_of (b ∷ bs) ≡ Some (pos n)
  unfolding value_of has_minus behind_minus
  digits_read l = rw (no_sign, sized (b ∷ bs) (omega arith) l, e) refl

  signed_read : length (b ∷ bs) ≤ 20 → value_of (minus_sign ∷ (b ∷ bs)) ≡ Some (neg_ℤ (pos n))
  unfolding value_of has_minus behind_minus
  signed_read l = rw (sized (b ∷ bs) (omega arith) l, e) refl

decimal_read : (ds : List ℕ) (n : ℕ) → value_from 0 ds ≡ Some n → (n ≡ 0 → ds ≡ 48 ∷ []) → length ds ≤ 20 → (value_of ds ≡ Some (pos n)) × (value_of (minus_sign ∷ ds) ≡ Some (neg_ℤ (pos n)))
unfolding value_from
decimal_read [] n e z l = let h : 0 ≡ n = cc in absurd (cc (z (sym h)))
decimal_read (b ∷ bs) n e z l = (digits_read b bs n e l, signed_read b bs n e l)

-- as it is put to the front of nothing
decimal_writes : (n : ℕ) → n < 2 ^ 64 → Writes (decimal n) n
decimal_writes n h =
    let p : Put (decimal n) [] (decimal n ++ drop (length (decimal n)) []) (length (decimal n)) = record { count = refl; bytes = refl } in
    subst (λ (bs : List ℕ). Writes bs n) (put_taken p) (put_writes h p)

pub written_read : (v : ℤ) → nat_abs v < 2 ^ 64 → value_of (written v) ≡ Some v
unfolding written
written_read (pos n) h = let w = decimal_writes n h in (decimal_read (decimal n) n w.value w.alone (decimal_few n)).0
written_read (negsuc n) h = let w = decimal_writes (suc n) h in (decimal_read (decimal (suc n)) (suc n) w.value w.alone (decimal_few (suc n))).1
