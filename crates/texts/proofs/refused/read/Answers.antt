-- `refused::read` meets its contract: what the rest of the file says, after the records so far, is what the whole says.
use Rattle.std.proofs.Common.{ℕ, [], ◌-◌, ◌≤◌, ◌≡◌, Bool, true, false, Some, length, take, refl, sym, ap, ◌∙◌, rules, arith}
use lib.Seq.{take_all}
use mir.Val.{bool_byte}
use borrow.Author.Tests.{tests}
use Rattle.base.proofs.Choice.{pick_all}
use Rattle.base.specs.Choice.{pick}
use Rattle.file.proofs.Forth.{encode_decode_as}
use Rattle.file.proofs.Refusals.{district_found}
use Rattle.file.proofs.Steps.{took, records_end}
use Rattle.file.proofs.TwoForms.{read_own}
use Rattle.grammar.proofs.Named.{is_form}
use Rattle.grammar.specs.Places.{start_of}
use Rattle.grammar.specs.Slots.{form_number, slot_in}
use Rattle.rules.specs.Answers.{refusal_number}
use Rattle.rules.specs.Calls.{loaded_of, district_in}
use Rattle.rules.specs.District.{District}
use Rattle.rules.specs.File.{found, read_records, decode_as}
use Rattle.rules.specs.Format.{present, file_records}
use Rattle.texts.specs.Places.{record_place, places_from, form_read, place_in}
use Rattle.texts.proofs.Walked.{goes_on, stops, nothing_behind, bytes_behind}
use Rattle.texts.proofs.refused.read.Goals as goal
use Rattle.texts.proofs.refused.read.Goals.{After-loop-n}

-- after the last record the district is what the records left
all_of : (c : After-loop-n) → take (start_of c.loop-n.n) c.loop-n.d ≡ c.loop-n.d
all_of c =
    let l = c.loop-n in
    let last : l.n ≡ file_records = omega arith in
    take_all (start_of l.n) l.d (omega (arith, l.invariant.2, ap start_of last))

none : (c : After-loop-n) → file_records - c.loop-n.n ≡ 0
none c = omega arith

ended : (c : After-loop-n) → let l = c.loop-n in place_in c.args.file.now ≡ places_from (form_number c.form_in-form.result) 0 l.n l.p l.d l.rest.now
ended c =
    let l = c.loop-n in
    let form = form_number c.form_in-form.result in
    l.invariant.0
    ∙ ap (λ (m : ℕ). places_from form m l.n l.p (take (start_of l.n) l.d) l.rest.now) (none c)
    ∙ ap (λ (d : District). places_from form 0 l.n l.p d l.rest.now) (all_of c)

whole : (c : After-loop-n) → let l = c.loop-n in length l.rest.now ≡ 0 → decode_as (form_number c.form_in-form.result) c.args.file.now ≡ found l.d []
whole c h =
    let l = c.loop-n in
    let form = form_number c.form_in-form.result in
    l.invariant.1
    ∙ ap (λ (m : ℕ). read_records form m l.n (take (start_of l.n) l.d) l.rest.now) (none c)
    ∙ ap (λ (d : District). read_records form 0 l.n d l.rest.now) (all_of c)
    ∙ records_end form l.n l.d l.rest.now h

pub loop-n-init : goal.loop-n-init
unfolding decode_as place_in form_read
loop-n-init c = (ap (λ (form : ℕ). places_from form file_records 0 1 [] c.args.file.now) (sym c.form_in-form.ensures), refl, search rules, omega arith)

-- one more where the record stands in the file
counted : (t : Bool) → bool_byte t ≡ pick t 1 0
counted true = refl
counted false = refl

pub loop-n-preserved : goal.loop-n-preserved
loop-n-preserved c =
    let l = c.loop-n in
    let p = c.nth-placed.result in
    let s = slot_in p.slot in
    let form = form_number c.form_in-form.result in
    let next = c.read.new.d in
    let rest = c.in-Ok.next.now in
    let before = c.read.ensures.before in
    let numbers = c.in-Ok.ensures.numbers in
    let there : c.is_present.result ≡ present (take p.place l.d) s = c.is_present.ensures ∙ sym (p.ready.here next) ∙ ap (λ (d : District). present d s) before in
    let one : c.from-p.result ≡ pick (present (take p.place l.d) s) 1 0 = c.from-p.ensures ∙ counted c.is_present.result ∙ ap (λ (t : Bool). pick t 1 0) there in
    rw one (
      l.invariant.0 ∙ goes_on form l.n l.p p.place s l.d l.rest.now (omega arith) c.nth-placed.ensures.slot c.nth-placed.ensures.place next rest before numbers,
      l.invariant.1 ∙ took form l.n p.place s l.d l.rest.now (omega arith) c.nth-placed.ensures.slot c.nth-placed.ensures.place next rest before numbers,
      c.read.array_long,
      omega (arith, pick_all (λ (n : ℕ). n ≤ 1) (present (take p.place l.d) s) 1 0 (omega arith) (omega arith)),
    )

pub returns-in-Err-clause-place : goal.returns-in-Err-clause-place
returns-in-Err-clause-place c =
    let l = c.loop-n in
    let p = c.nth-placed.result in
    let s = slot_in p.slot in
    let k = refusal_number c.in-Err.refusal in
    l.invariant.0
    ∙ stops (form_number c.form_in-form.result) l.n l.p p.place s l.d l.rest.now (omega arith) c.nth-placed.ensures.slot c.nth-placed.ensures.place k c.in-Err.ensures.numbers
    ∙ ap (λ (before : District). Some (record_place k l.p before s l.rest.now)) (sym c.read.ensures.before)
    ∙ ap Some (sym c.record_place.ensures)

pub returns-then-not-is_empty-clause-place : goal.returns-then-not-is_empty-clause-place
returns-then-not-is_empty-clause-place c =
    let l = c.loop-n in
    ended (goal.at.returns-then-not-is_empty-clause-place c).After-loop-n ∙ bytes_behind (form_number c.form_in-form.result) l.n l.p l.d l.rest.now (search (rules, tests))

pub returns : goal.returns
unfolding district_in form_read
returns c =
    let l = c.loop-n in
    let file = c.args.file.now in
    let form = form_number c.form_in-form.result in
    let at = (goal.at.returns c).After-loop-n in
    let none : length l.rest.now ≡ 0 = search (rules, tests) in
    let read = whole at none in
    record {
      place = ended at ∙ nothing_behind form l.n l.p l.d l.rest.now none;
      form = c.form_in-form.ensures;
      district = district_found form file l.d [] read ∙ ap loaded_of (read_own form file c.form_in-form.ensures);
      ranged = (encode_decode_as form (is_form c.form_in-form.result) file l.d [] read).1;
    }
