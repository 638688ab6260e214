-- The call at the front of the bytes, by its first 17 and what follows them.
use Prim.Native.Nat.{ℕ, ◌+◌, ◌-◌, ◌≤◌, ◌<◌}
use mathlib.Core.Path.{◌≡◌, ap, ◌∙◌}
use mathlib.Core.List.{List}
use native.Mathlib.Omega.{arith}
use lib.ListN.{length, take, drop, length-drop}
use lib.Seq.{drop-drop}
use Rattle.std.proofs.lemmas.List.{get_or-take, take-take, drop-take}
use Rattle.base.specs.Bytes.{number_of}
use Rattle.script.specs.Script.{kind_in, number_at, command_in, queue_kind, body_in}
use Rattle.script.specs.Calls.{IsFirst}
use Rattle.script.specs.declared.Call.{Call}

-- the first 17 bytes say what all of them say
module _ (bs : List ℕ) where
  kind_front : kind_in (take 17 bs) ≡ kind_in bs
  kind_front = get_or-take 17 bs 0 0 (omega arith)

  number_front : (at : ℕ) → at + 4 ≤ 17 → number_at at (take 17 bs) ≡ number_at at bs
  number_front at h =
      let n : 17 ≡ at + (17 - at) = omega arith in
      ap number_of
      (ap (λ (m : ℕ). take 4 (drop at (take m bs))) n ∙ ap (take 4) (drop-take at (17 - at) bs) ∙ take-take 4 (17 - at) (drop at bs) (omega arith))

  command_front : command_in (take 17 bs) ≡ command_in bs
  unfolding command_in
  command_front = rw (kind_front, number_front 5 (omega arith), number_front 9 (omega arith), number_front 13 (omega arith))

  body_front : body_in (take 17 bs) ≡ body_in bs
  unfolding body_in
  body_front = rw (kind_front, number_front 5 (omega arith))

-- an edit that is to wait has room for its own bytes
pub queue_room : (head body : List ℕ) (n : ℕ) → n ≡ body_in head → length body ≡ n → kind_in head ≡ queue_kind → 17 ≤ length body
unfolding body_in
queue_room head body n is len e = let room : body_in head ≡ 17 = rw e in omega arith

module _ (bs head behind : List ℕ) (n : ℕ) (front : head ≡ take 17 bs) (back : behind ≡ drop 17 bs) (is : n ≡ body_in head) where
  size : n ≡ body_in bs
  size = is ∙ ap body_in front ∙ body_front bs

  behind_length : length behind ≡ length bs - 17
  behind_length = ap length back ∙ length-drop 17 bs

  -- the bytes end within it
  pub cut : length behind < n → length bs < 17 + body_in bs
  cut few = omega (arith, size, behind_length)

  -- it stands whole
  pub stands :
      (c : Call) (after : List ℕ) → 17 ≤ length bs → n ≤ length behind → c.kind ≡ kind_in head → c.office ≡ number_at 1 head → c.command ≡ command_in head
      → c.first ≡ number_at 5 head → c.body.now ≡ take n behind → after ≡ drop n behind → IsFirst bs c after
  stands c after some fits ek eo ec ef eb rest =
      record {
        whole = omega (arith, size, behind_length);
        entry =
            rw (ek, eo, ec, ef, eb, front, back, size, kind_front bs, number_front bs 1 (omega arith), command_front bs, number_front bs 5 (omega arith));
        rest = rw (rest, back, size) (drop-drop (body_in bs) 17 bs);
      }
