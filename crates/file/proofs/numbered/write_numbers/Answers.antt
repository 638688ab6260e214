-- `write_numbers` meets its contract: what is written so far and what is to come is the whole.
use Prim.Native.Nat.{◌+◌, ◌-◌}
use mathlib.Core.Path.{◌≡◌, sym}
use mathlib.Core.List.{◌++◌}
use native.Mathlib.Omega.{arith}
use lib.ListN.{get_or}
use Rattle.base.proofs.Bytes.{length_bytes}
use Rattle.base.proofs.Buffers.{Written, tail_room}
use Rattle.base.proofs.Text.{put_more, put_all, tail_fits}
use Rattle.base.specs.Bytes.{bytes_of}
use Rattle.rules.specs.File.{number_bytes}
use Rattle.file.proofs.Steps.{numbers_step}
use Rattle.grammar.specs.Slots.{numbered_in}
use Rattle.file.proofs.numbered.write_numbers.Goals as goal
use Rattle.file.proofs.numbered.write_numbers.Goals.{After-field_at-f}

-- a number is to come
now : (c : After-field_at-f) → let l = c.loop-i in let a = c.args in let s = numbered_in a.slot in Written a.out.now (number_bytes s.places a.d.now s 0 a.place) (bytes_of c.field_at-f.result.width (get_or a.d.now (a.place + l.i) 0) ++ number_bytes (s.places - (l.i + 1)) a.d.now s (l.i + 1) (a.place + (l.i + 1))) l.at l.out
now c =
    let l = c.loop-i in
    let a = c.args in
    rw (numbers_step a.slot.places a.d.now (numbered_in a.slot) l.i a.place c.field_at-f.result (omega arith) c.field_at-f.ensures) at l.invariant

pub put-requires : goal.put-requires
put-requires c =
    let l = c.loop-i in
    let w = c.field_at-f.result.width in
    let x = get_or c.args.d.now (c.args.place + l.i) 0 in
    omega (arith, tail_fits (bytes_of w x) _ (now (goal.at.put-requires c).After-field_at-f) c.requires.room, length_bytes w x)

pub overflow_add-at : goal.overflow_add-at
overflow_add-at c =
    let l = c.loop-i in
    let w = c.field_at-f.result.width in
    let x = get_or c.args.d.now (c.args.place + l.i) 0 in
    omega (arith, tail_room (bytes_of w x) _ (now (goal.at.overflow_add-at c).After-field_at-f) c.requires.room, length_bytes w x)

pub loop-i-preserved : goal.loop-i-preserved
loop-i-preserved c =
    let l = c.loop-i in
    let w = c.field_at-f.result.width in
    let x = get_or c.args.d.now (c.args.place + l.i) 0 in
    let n = length_bytes w x in
    put_more (bytes_of w x) _ (now (goal.at.loop-i-preserved c).After-field_at-f) c.requires.room (record { count = sym n; bytes = rw n c.put.ensures })

pub returns : goal.returns
unfolding number_bytes
returns c =
    let l = c.loop-i in
    let z : c.args.slot.places - l.i ≡ 0 = omega arith in
    put_all (rw z at l.invariant)
