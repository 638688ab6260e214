-- `read_records` meets its contract: what is read in all is what is read from here on, after the records so far.
use Rattle.std.proofs.Common.{ℕ, [], ◌-◌, ◌≡◌, refl, ap, ◌∙◌, take, rules, arith}
use lib.Seq.{take_all}
use Rattle.std.proofs.lemmas.Result.{err_from_is_err_and}
use Rattle.grammar.specs.Places.{start_of}
use Rattle.grammar.specs.Slots.{form_number, slot_in}
use Rattle.grammar.proofs.Named.{is_form}
use Rattle.grammar.proofs.Slots.{ready, record_room, start_next}
use Rattle.rules.specs.District.{District}
use Rattle.rules.specs.Format.{file_records, Slot}
use Rattle.texts.specs.Reading.{read_records}
use Rattle.texts.specs.Found.{complaint_in, lines_left, behind}
use Rattle.texts.proofs.Taken.{taken, refused, nothing_follows, line_follows}
use Rattle.texts.proofs.reading.read_records.Goals as goal
use Rattle.texts.proofs.reading.read_records.Goals.{After-loop-n}

-- after the last record the district is what the records left
ended : (c : After-loop-n) → let l = c.loop-n in let form = form_number c.args.form in let last = behind c.args.lines in
    read_records form last file_records 0 [] (lines_left c.args.lines) ≡ read_records form last 0 l.n l.d (lines_left l.rest)
ended c =
    let l = c.loop-n in
    let i = l.invariant in
    let form = form_number c.args.form in
    let last = behind c.args.lines in
    let end : l.n ≡ file_records = omega arith in
    let none : file_records - l.n ≡ 0 = omega arith in
    i.0
    ∙ ap (λ (m : ℕ). read_records form last m l.n (take l.place l.d) (lines_left l.rest)) none
    ∙ ap (λ (d : District). read_records form last 0 l.n d (lines_left l.rest)) (take_all l.place l.d (omega (arith, i.2, i.3, ap start_of end)))

pub loop-n-init : goal.loop-n-init
loop-n-init c = (refl, refl, refl, search rules)

pub read_record-requires : goal.read_record-requires
read_record-requires c =
    let l = c.loop-n in
    rw (c.slot_at-s.ensures, l.invariant.2) (ready (form_number c.args.form) (is_form c.args.form) l.n (omega arith))

pub returns-in_err-rest : goal.returns-in_err-rest
returns-in_err-rest c =
    let l = c.loop-n in
    let k = err_from_is_err_and c.from_residual.result c.from_residual.ensures.1 in
    rw (k.1, k.2) (l.invariant.0 ∙ refused (form_number c.args.form) l.n l.place (slot_in c.slot_at-s.result) l.d (lines_left l.rest) (omega arith) c.slot_at-s.ensures _ _ l.invariant.1 (complaint_in c.in_err-rest.field-0.0) c.in_err-rest.ensures)

pub overflow_add-place : goal.overflow_add-place
overflow_add-place c =
    let l = c.loop-n in
    omega (arith, l.invariant.2, ap (λ (t : Slot). t.places) c.slot_at-s.ensures, record_room (form_number c.args.form) l.n (omega arith))

pub loop-n-preserved : goal.loop-n-preserved
loop-n-preserved c =
    let l = c.loop-n in
    let s = slot_in c.slot_at-s.result in
    let r = c.in_ok-rest.ensures in
    let form = form_number c.args.form in (
      l.invariant.0 ∙ taken form l.n l.place s l.d (lines_left l.rest) (omega arith) c.slot_at-s.ensures _ _ l.invariant.1 c.read_record.new.d (lines_left c.in_ok-rest.rest) r.0 r.1,
      r.2 ∙ l.invariant.1,
      omega (arith, l.invariant.2, ap (λ (t : Slot). t.places) c.slot_at-s.ensures, start_next form l.n),
      c.read_record.array_long,
    )

pub returns-in-Ok : goal.returns-in-Ok
returns-in-Ok c =
    let l = c.loop-n in
    ended (goal.at.returns-in-Ok c).After-loop-n ∙ line_follows (form_number c.args.form) (behind c.args.lines) l.n l.d (lines_left l.rest) _ _ c.in-Ok.ensures.0

pub returns-in-Err : goal.returns-in-Err
returns-in-Err c =
    let l = c.loop-n in
    ended (goal.at.returns-in-Err c).After-loop-n ∙ nothing_follows (form_number c.args.form) (behind c.args.lines) l.n l.d (lines_left l.rest) c.in-Err.ensures.0
