-- `write_file` meets its contract: what is written so far and the records to come are the file.
use Prim.Native.Nat.{ℕ, ◌+◌, ◌-◌}
use mathlib.Core.Path.{◌≡◌, ap}
use mathlib.Core.List.{◌++◌}
use native.Mathlib.Omega.{arith}
use Rattle.base.proofs.Buffers.{Written, written_none, written_all, tail_room}
use Rattle.base.proofs.Text.{put_more, tail_fits}
use Rattle.rules.specs.File.{record_bytes, records_bytes, encode_as}
use Rattle.rules.specs.Format.{file_records}
use Rattle.grammar.specs.Places.{start_of}
use Rattle.grammar.specs.Slots.{form_number, slot_in}
use Rattle.file.proofs.Steps.{placed_step}
use Rattle.file.proofs.writing.write_file.Goals as goal
use Rattle.file.proofs.writing.write_file.Goals.{After-nth}

-- a record is to come
now : (c : After-nth) → let l = c.loop-n in let form = form_number c.args.form in let p = c.nth.result in let d = c.args.d.now in Written c.args.out.now (encode_as form d) (record_bytes d (slot_in p.slot) p.place ++ records_bytes form (file_records - (l.n + 1)) d (l.n + 1) (start_of (l.n + 1))) l.at l.out
now c =
    let p = c.nth.result in
    rw (placed_step (form_number c.args.form) c.args.d.now c.loop-n.n p.place (slot_in p.slot) (omega arith) c.nth.ensures.slot c.nth.ensures.place) at c.loop-n.invariant

pub loop-n-init : goal.loop-n-init
unfolding encode_as
loop-n-init c = written_none _ _

pub nth-requires : goal.nth-requires
nth-requires c = c.loop-n-test.true

pub write-at-requires : goal.write-at-requires
write-at-requires c = tail_fits _ _ (now (goal.at.write-at-requires c).After-nth) c.requires

pub overflow_add-at : goal.overflow_add-at
overflow_add-at c = omega (arith, tail_room (record_bytes c.args.d.now (slot_in c.nth.result.slot) c.nth.result.place) _ (now (goal.at.overflow_add-at c).After-nth) c.requires)

pub loop-n-preserved : goal.loop-n-preserved
loop-n-preserved c = put_more _ _ (now (goal.at.loop-n-preserved c).After-nth) c.requires c.write-at.ensures

pub returns : goal.returns
unfolding records_bytes
returns c =
    let l = c.loop-n in
    let a = c.args in
    let z : file_records - l.n ≡ 0 = omega arith in
    (written_all l.invariant (ap (λ (m : ℕ). records_bytes (form_number a.form) m a.d.now l.n (start_of l.n)) z)).1
