-- `printing::put_text` meets its contract: the records one after another.
use Rattle.std.proofs.Common.{◌≡◌, ◌-◌, refl, ap, arith}
use Rattle.base.proofs.Buffers.{written_none}
use Rattle.base.proofs.Text.{put_all, put_more, tail_fits}
use Rattle.grammar.specs.Slots.{form_number, slot_in}
use Rattle.grammar.proofs.Slots.{record_room, start_next}
use Rattle.rules.specs.Format.{file_records, present, Slot}
use Rattle.texts.specs.Printing.{records_text, record_text, text_of}
use Rattle.texts.proofs.Lined.{record_next}
use Rattle.texts.proofs.printing.put_text.Goals as goal

pub loop-n-init : goal.loop-n-init
unfolding text_of
loop-n-init c = (written_none _ _, refl)

pub put_record-at-requires-clause-room : goal.put_record-at-requires-clause-room
put_record-at-requires-clause-room c =
    let d = c.args.d.now in
    let l = c.loop-n in
    let s = slot_in c.slot_at-s.result in
    tail_fits (record_text (present d s) d s l.place) _ (record_next (form_number c.args.form) d l.n l.place (omega arith) s c.slot_at-s.ensures l.invariant.0) c.requires

pub put_record-at-requires-clause-within : goal.put_record-at-requires-clause-within
put_record-at-requires-clause-within c =
    let l = c.loop-n in
    omega (arith, l.invariant.1, ap (λ (t : Slot). t.places) c.slot_at-s.ensures, record_room (form_number c.args.form) l.n (omega arith))

pub overflow_add-place : goal.overflow_add-place
overflow_add-place c =
    let l = c.loop-n in
    omega (arith, l.invariant.1, ap (λ (t : Slot). t.places) c.slot_at-s.ensures, record_room (form_number c.args.form) l.n (omega arith))

pub loop-n-preserved : goal.loop-n-preserved
loop-n-preserved c =
    let d = c.args.d.now in
    let l = c.loop-n in
    let s = slot_in c.slot_at-s.result in (
      put_more (record_text (present d s) d s l.place) _ (record_next (form_number c.args.form) d l.n l.place (omega arith) s c.slot_at-s.ensures l.invariant.0) c.requires c.put_record-at.ensures,
      omega (arith, l.invariant.1, ap (λ (t : Slot). t.places) c.slot_at-s.ensures, start_next (form_number c.args.form) l.n),
    )

pub returns : goal.returns
unfolding records_text
returns c =
    let none : file_records - c.loop-n.n ≡ 0 = omega arith in
    put_all (rw none at c.loop-n.invariant.0)
