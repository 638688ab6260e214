-- Laws of the digits of a number, and of bytes put to the front of a buffer, one piece after another.
use Prim.Native.Nat.{ℕ, zero, suc, ◌+◌, ◌-◌, ◌/◌, ◌%◌, ◌^◌, ◌≤◌, ◌<◌}
use mathlib.Core.Path.{◌≡◌, refl, sym, ap, ◌∙◌}
use mathlib.Core.List.{List, [], ◌∷◌, ◌++◌, append-nil}
use native.Mathlib.Nat.{pow-succ'}
use native.Mathlib.Omega.{arith}
use lib.Dec.{ltb}
use lib.ListN.{length, take, drop, length-append, length-drop}
use lib.Seq.{take_at, length-take-le}
use borrow.Author.Tests.{lt-ltb, le-ltb}
use borrow.Rule.Slice.PartMut.{put_mid}
use Rattle.base.specs.Choice.{pick}
use Rattle.base.specs.Text.{digits_of, most_digits, decimal, Put}
use Rattle.base.proofs.Choice.{pick_all}
use Rattle.base.proofs.Buffers.{Written, whole_tail, written_front, written_more, written_all, tail_room}

-- ---- digits

digits_small : (k n : ℕ) → n < 10 → digits_of (suc k) n ≡ (48 + n) ∷ []
unfolding digits_of
digits_small k n h = rw (lt-ltb n 10 h)

digits_large : (k n : ℕ) → 10 ≤ n → digits_of (suc k) n ≡ digits_of k (n / 10) ++ ((48 + n % 10) ∷ [])
unfolding digits_of
digits_large k n h = rw (le-ltb n 10 h)

-- a bound that is enough may be raised
digits_more : (k n : ℕ) → n < 10 ^ suc k → digits_of (suc (suc k)) n ≡ digits_of (suc k) n
unfolding digits_of
digits_more zero n h = digits_small 1 n (omega arith) ∙ sym (digits_small 0 n (omega arith))
digits_more (suc k) n h =
    let e = pow-succ' 10 (suc k) in
    let small : n / 10 < 10 ^ suc k = omega arith in
    ap (λ (l : List ℕ). pick (ltb n 10) ((48 + n) ∷ []) (l ++ ((48 + n % 10) ∷ []))) (digits_more k (n / 10) small)

pub decimal_small : (n : ℕ) → n < 10 → decimal n ≡ (48 + n) ∷ []
unfolding decimal
decimal_small n h = digits_small 19 n h

pub decimal_large : (n : ℕ) → 10 ≤ n → n < 2 ^ 64 → decimal n ≡ decimal (n / 10) ++ ((48 + n % 10) ∷ [])
unfolding decimal
decimal_large n h l = digits_large 19 n h ∙ ap (λ (l : List ℕ). l ++ ((48 + n % 10) ∷ [])) (sym (digits_more 18 (n / 10) (omega arith)))

digits_few : (k n : ℕ) → length (digits_of k n) ≤ k
unfolding digits_of
digits_few zero n = omega arith
digits_few (suc k) n =
    let some = digits_few k (n / 10) in
    pick_all (λ (l : List ℕ). length l ≤ suc k) (ltb n 10) ((48 + n) ∷ []) (digits_of k (n / 10) ++ ((48 + n % 10) ∷ [])) (omega arith) (simp length-append (omega arith))

pub decimal_few : (n : ℕ) → length (decimal n) ≤ most_digits
unfolding decimal
decimal_few n = digits_few most_digits n

-- ---- pieces

-- the first piece, at the front of the whole buffer
pub put_front : (bs rest : List ℕ) {old out : List ℕ} {n : ℕ} → Put bs old out n → length bs ≤ length old → Written old (bs ++ rest) rest n out
put_front bs rest {old} {out} p h = rw p.count (written_front bs rest old out h p.bytes)

module _ {old whole : List ℕ} (bs rest : List ℕ) {at : ℕ} {out : List ℕ} (w : Written old whole (bs ++ rest) at out) (fits : length whole ≤ length old) where
  -- the next one has room in the tail, which is lent to its writer
  pub tail_fits : length bs ≤ length (take (length out - at) (drop at out))
  tail_fits = rw (whole_tail out at) (simp length-drop (omega (arith, tail_room bs rest w fits)))

  pub put_more : {last : List ℕ} {n : ℕ} → Put bs (take (length out - at) (drop at out)) last n → Written old whole rest (at + n) (put_mid at (length out - at) out last)
  put_more {last} p = rw p.count (written_more bs rest w fits last p.bytes)

-- all are put
pub put_all : {old whole : List ℕ} {at : ℕ} {out : List ℕ} → Written old whole [] at out → Put whole old out at
put_all w = let all = written_all w refl in record { count = all.0; bytes = all.1 }

-- the last piece
module _ {old whole bs : List ℕ} {at : ℕ} {out : List ℕ} (w : Written old whole bs at out) (fits : length whole ≤ length old) where
  last : Written old whole (bs ++ []) at out
  last = rw (append-nil bs) w

  pub last_fits : length bs ≤ length (take (length out - at) (drop at out))
  last_fits = tail_fits bs [] last fits

  pub put_last : {new : List ℕ} {n : ℕ} → Put bs (take (length out - at) (drop at out)) new n → Put whole old (put_mid at (length out - at) out new) (at + n)
  put_last p = put_all (put_more bs [] last fits p)

-- where the whole has room, so has its first piece
pub front_fits : (a b : List ℕ) {n : ℕ} → length (a ++ b) ≤ n → length a ≤ n
front_fits a b h = omega (arith, length-append a b)

-- ---- what was put is within the buffer, so that it can be lent as a part, and is the buffer's front

pub put_within : {bs old new : List ℕ} {n : ℕ} → Put bs old new n → n ≤ length new
put_within {bs} {old} {new} p = omega (arith, p.count, ap length p.bytes, length-append bs (drop (length bs) old))

pub put_part : {bs old new : List ℕ} {n : ℕ} → Put bs old new n → n ≡ length (take n new)
put_part {bs} {old} {new} {n} p = sym (length-take-le n new (put_within p))

pub put_taken : {bs old new : List ℕ} {n : ℕ} → Put bs old new n → take n new ≡ bs
put_taken {bs} {old} {new} {n} p = ap (take n) p.bytes ∙ take_at bs (drop (length bs) old) n (sym p.count)
