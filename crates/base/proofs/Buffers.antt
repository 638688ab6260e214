-- A buffer into whose tail bytes are written: how far it is written, and what is still to come.
use Prim.Native.Nat.{ℕ, ◌+◌, ◌-◌, ◌≤◌, ◌<◌}
use mathlib.Core.Path.{◌≡◌, refl, sym, ap, ◌∙◌}
use mathlib.Core.List.{List, [], ◌∷◌, ◌++◌, append_assoc, append-nil}
use native.Mathlib.Numerals.{add-one}
use native.Mathlib.Omega.{arith}
use lib.ListN.{length, take, drop, set, length-append, length-drop, length-set, drop_of_length-le, take-append-drop}
use lib.Seq.{take_all, take_at, drop_at, drop-drop, drop-set-lt, take-suc-set, length-take-le}
use borrow.Rule.Slice.PartMut.{put_mid}

-- the tail that is lent is all that follows
pub whole_tail : (out : List ℕ) (at : ℕ) → take (length out - at) (drop at out) ≡ drop at out
whole_tail out at = take_all (length out - at) (drop at out) (simp length-drop (omega arith))

-- of a buffer that held `old`, the first `at` bytes are written and `rest` is to follow, in all `whole`; what lies behind is as it was
pub record Written (old whole rest : List ℕ) (at : ℕ) (out : List ℕ) : Type 0 where
  pub room : at ≤ length out
  pub same : length out ≡ length old
  pub kept : drop at out ≡ drop at old
  pub done : take at out ++ rest ≡ whole

pub written_none : (old whole : List ℕ) → Written old whole whole 0 old
written_none old whole = record { room = omega arith; same = refl; kept = refl; done = refl }

module _ {old whole rest : List ℕ} {at : ℕ} {out : List ℕ} (w : Written old whole rest at out) where
  written_left : at + length rest ≡ length whole
  written_left = omega (arith, ap length w.done, length-append (take at out) rest, length-take-le at out w.room)

  -- all is written
  pub written_all : rest ≡ [] → (at ≡ length whole) × (out ≡ whole ++ drop (length whole) old)
  written_all e =
      let n : at ≡ length whole = omega (arith, written_left, ap length e) in
      let t : take at out ≡ whole = sym (append-nil (take at out)) ∙ ap (λ (l : List ℕ). take at out ++ l) (sym e) ∙ w.done in
      (n, sym (take-append-drop at out) ∙ rw (t, w.kept, n))

-- the tail is lent to a writer, which writes bs to its front
module _ {old whole : List ℕ} (bs rest : List ℕ) {at : ℕ} {out : List ℕ} (w : Written old whole (bs ++ rest) at out) (fits : length whole ≤ length old) where
  pub tail_room : at + length bs ≤ length out
  tail_room = omega (arith, written_left w, length-append bs rest, w.same)

  module _ (last : List ℕ) (e : last ≡ bs ++ drop (length bs) (take (length out - at) (drop at out))) where
    next : List ℕ
    next = put_mid at (length out - at) out last

    tail_is : next ≡ (take at out ++ bs) ++ drop (at + length bs) out
    unfolding next
    tail_is =
        let g : length (drop at out) ≤ length out - at = simp length-drop (omega arith) in
        let z : drop (length out - at) (drop at out) ≡ [] = drop_of_length-le (drop at out) g in
        rw (z, append-nil last, e, whole_tail out at, drop-drop (length bs) at out) (sym (append_assoc (take at out) bs (drop (at + length bs) out)))

    front : length (take at out ++ bs) ≡ at + length bs
    front = length-append (take at out) bs ∙ rw (length-take-le at out w.room)

    pub written_more : Written old whole rest (at + length bs) (put_mid at (length out - at) out last)
    unfolding next
    written_more =
        let n = ap length tail_is ∙ length-append (take at out ++ bs) (drop (at + length bs) out) in
        let l : length (put_mid at (length out - at) out last) ≡ length out = omega (arith, front, length-drop (at + length bs) out, tail_room) in
        record {
          room = omega (arith, tail_room);
          same = l ∙ w.same;
          kept =
              ap (drop (at + length bs)) tail_is
              ∙ drop_at (take at out ++ bs) (drop (at + length bs) out) (at + length bs) front
              ∙ sym (drop-drop (length bs) at out)
              ∙ ap (drop (length bs)) w.kept
              ∙ drop-drop (length bs) at old;
          done =
              ap (λ (l : List ℕ). take (at + length bs) l ++ rest) tail_is
              ∙ ap (λ (l : List ℕ). l ++ rest) (take_at (take at out ++ bs) (drop (at + length bs) out) (at + length bs) front)
              ∙ append_assoc (take at out) bs rest
              ∙ w.done;
        }

-- bs is written to the front of the whole buffer
pub written_front : (bs rest old out : List ℕ) → length bs ≤ length old → out ≡ bs ++ drop (length bs) old → Written old (bs ++ rest) rest (length bs) out
written_front bs rest old out h e =
    let l : length out ≡ length old = omega (arith, ap length e, length-append bs (drop (length bs) old), length-drop (length bs) old) in
    record {
      room = omega arith;
      same = l;
      kept = ap (drop (length bs)) e ∙ drop_at bs (drop (length bs) old) (length bs) refl;
      done = ap (λ (l : List ℕ). take (length bs) l ++ rest) e ∙ ap (λ (l : List ℕ). l ++ rest) (take_at bs (drop (length bs) old) (length bs) refl);
    }

-- one byte is written in its place
pub written_one : {old whole : List ℕ} (b : ℕ) (rest : List ℕ) {at : ℕ} {out : List ℕ} → Written old whole (b ∷ rest) at out → at < length out → Written old whole rest (at + 1) (set out at b)
written_one {old} {whole} b rest {at} {out} w l =
    record {
      room = simp length-set (omega arith);
      same = length-set out at b ∙ w.same;
      kept = drop-set-lt (at + 1) out at b (omega arith) ∙ sym (drop-drop 1 at out) ∙ ap (drop 1) w.kept ∙ drop-drop 1 at old;
      done = rw (add-one at, take-suc-set out at b l, append_assoc) w.done;
    }
