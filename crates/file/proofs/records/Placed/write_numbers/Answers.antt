-- `write_numbers` meets its contract: what is written so far and what is to come is the whole.
use Prim.Native.Nat.{◌+◌, ◌-◌}
use mathlib.Core.Path.{◌≡◌, sym, ◌∙◌}
use mathlib.Core.List.{◌++◌}
use native.Mathlib.Omega.{arith}
use lib.ListN.{get_or, drop}
use lib.Seq.{get_or-take, get_or-drop}
use Rattle.base.proofs.Bytes.{length_bytes}
use Rattle.base.proofs.Buffers.{Written, tail_room}
use Rattle.base.proofs.Text.{put_more, put_all, tail_fits}
use Rattle.base.specs.Bytes.{bytes_of}
use Rattle.rules.specs.File.{number_bytes}
use Rattle.file.proofs.Steps.{numbers_step}
use Rattle.grammar.specs.Slots.{slot_in}
use Rattle.file.proofs.records.Placed.write_numbers.Goals as goal
use Rattle.file.proofs.records.Placed.write_numbers.Goals.{After-field_at-f}

-- a number is to come
now : (c : After-field_at-f) → let l = c.loop-i in let a = c.args in let p = a.self in let s = slot_in p.slot in Written a.out.now (number_bytes p.slot.places a.d.now s 0 p.place) (bytes_of c.field_at-f.result.width (get_or a.d.now (p.place + l.i) 0) ++ number_bytes (p.slot.places - (l.i + 1)) a.d.now s (l.i + 1) (p.place + (l.i + 1))) l.at l.out
now c =
    let l = c.loop-i in
    let a = c.args in
    let p = a.self in
    rw (numbers_step p.slot.places a.d.now (slot_in p.slot) l.i p.place c.field_at-f.result (omega (arith, c.numbers-value-items.ensures.all)) c.field_at-f.ensures) at l.invariant

pub put-requires : goal.put-requires
put-requires c =
    let l = c.loop-i in
    let w = c.field_at-f.result.width in
    omega (arith, tail_fits (bytes_of w (get_or c.args.d.now (c.args.self.place + l.i) 0)) _ (now (goal.at.put-requires c).After-field_at-f) c.requires, length_bytes w (get_or c.args.d.now (c.args.self.place + l.i) 0))

pub overflow_add-at : goal.overflow_add-at
overflow_add-at c =
    let l = c.loop-i in
    let w = c.field_at-f.result.width in
    omega (arith, tail_room (bytes_of w (get_or c.args.d.now (c.args.self.place + l.i) 0)) _ (now (goal.at.overflow_add-at c).After-field_at-f) c.requires, length_bytes w (get_or c.args.d.now (c.args.self.place + l.i) 0))

pub loop-i-preserved : goal.loop-i-preserved
loop-i-preserved c =
    let l = c.loop-i in
    let a = c.args in
    let w = c.field_at-f.result.width in
    let numbers = c.numbers-value-items in
    let v : get_or numbers.result.now l.i 0 ≡ get_or a.d.now (a.self.place + l.i) 0 = rw numbers.ensures.numbers (get_or-take a.self.slot.places (drop a.self.place a.d.now) l.i 0 (omega (arith, numbers.ensures.all)) ∙ get_or-drop a.self.place a.d.now l.i 0) in
    let n = length_bytes w (get_or a.d.now (a.self.place + l.i) 0) in
    put_more (bytes_of w (get_or a.d.now (a.self.place + l.i) 0)) _ (now (goal.at.loop-i-preserved c).After-field_at-f) c.requires (record { count = sym n; bytes = rw (n, ← v) c.put.ensures })

pub returns : goal.returns
unfolding number_bytes
returns c =
    let l = c.loop-i in
    let z : c.args.self.slot.places - l.i ≡ 0 = omega (arith, c.numbers-value-items.ensures.all) in
    put_all (rw z at l.invariant)
