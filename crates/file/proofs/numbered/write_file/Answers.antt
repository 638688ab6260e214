-- `write_file` meets its contract: what is written so far and the records to come are the file.
use Prim.Native.Nat.{ℕ, ◌+◌, ◌-◌}
use mathlib.Core.Path.{◌≡◌, ap}
use mathlib.Core.List.{◌++◌}
use native.Mathlib.Omega.{arith}
use Rattle.base.proofs.Buffers.{Written, written_none, written_all, tail_room}
use Rattle.base.proofs.Text.{put_more, tail_fits}
use Rattle.rules.specs.File.{record_bytes, records_bytes, encode_as}
use Rattle.rules.specs.Format.{file_records, Slot}
use Rattle.grammar.specs.Places.{start_of}
use Rattle.grammar.specs.Slots.{numbered_in}
use Rattle.grammar.proofs.Slots.{record_room}
use Rattle.file.proofs.Steps.{placed_step}
use Rattle.file.proofs.numbered.write_file.Goals as goal
use Rattle.file.proofs.numbered.write_file.Goals.{After-start_of}

-- a record is to come
now : (c : After-start_of) → let l = c.loop-n in let form = c.args.form in let d = c.args.d.now in Written c.args.out.now (encode_as form d) (record_bytes d (numbered_in c.slot_at-slot.result) c.start_of.result ++ records_bytes form (file_records - (l.n + 1)) d (l.n + 1) (start_of (l.n + 1))) l.at l.out
now c =
    rw (placed_step c.args.form c.args.d.now c.loop-n.n c.start_of.result (numbered_in c.slot_at-slot.result) (omega arith) c.slot_at-slot.ensures c.start_of.ensures) at c.loop-n.invariant

pub loop-n-init : goal.loop-n-init
unfolding encode_as
loop-n-init c = written_none _ _

pub write-at-requires-clause-places : goal.write-at-requires-clause-places
write-at-requires-clause-places c = omega (arith, c.start_of.ensures, record_room c.args.form c.loop-n.n (omega arith), ap (λ (s : Slot). s.places) c.slot_at-slot.ensures)

pub write-at-requires-clause-room : goal.write-at-requires-clause-room
write-at-requires-clause-room c = tail_fits _ _ (now (goal.at.write-at-requires-clause-room c).After-start_of) c.requires

pub overflow_add-at : goal.overflow_add-at
overflow_add-at c = omega (arith, tail_room (record_bytes c.args.d.now (numbered_in c.slot_at-slot.result) c.start_of.result) _ (now (goal.at.overflow_add-at c).After-start_of) c.requires)

pub loop-n-preserved : goal.loop-n-preserved
loop-n-preserved c = put_more _ _ (now (goal.at.loop-n-preserved c).After-start_of) c.requires c.write-at.ensures

pub returns : goal.returns
unfolding records_bytes
returns c =
    let l = c.loop-n in
    let a = c.args in
    let z : file_records - l.n ≡ 0 = omega arith in
    (written_all l.invariant (ap (λ (m : ℕ). records_bytes a.form m a.d.now l.n (start_of l.n)) z)).1
