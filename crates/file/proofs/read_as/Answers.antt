-- `read_as` meets its contract: what the file is read as is what the rest of it is read as, after the values so far.
use Prim.Native.Nat.{ℕ, ◌-◌}
use mathlib.Core.Path.{◌≡◌, refl, ap, ◌∙◌}
use mathlib.Core.List.{List, []}
use native.Mathlib.Omega.{arith}
use lib.ListN.{length, take}
use lib.Seq.{take_all}
use borrow.Author.Tests.{tests}
use Rattle.std.proofs.Common.{rules}
use Rattle.std.proofs.lemmas.Result.{err_from_is_err_and}
use Rattle.rules.specs.Answers.{refusal_number, bytes_follow}
use Rattle.rules.specs.File.{found, read_records, decode_as}
use Rattle.rules.specs.Format.{file_records}
use Rattle.grammar.specs.Places.{start_of}
use Rattle.grammar.specs.Slots.{form_number, slot_in}
use Rattle.file.proofs.Refusals.{refusal_found, refusal_refused, district_found}
use Rattle.file.proofs.Steps.{took, refuses, records_end, records_over}
use Rattle.file.proofs.read_as.Goals as goal
use Rattle.file.proofs.read_as.Goals.{After-loop-n}

-- after the last record the file's district is what the records left
ended : (c : After-loop-n) → let l = c.loop-n in let form = form_number c.args.form in decode_as form c.args.file.now ≡ read_records form 0 l.n l.d l.rest.now
ended c =
    let l = c.loop-n in
    let form = form_number c.args.form in
    let last : l.n ≡ file_records = omega arith in
    let none : file_records - l.n ≡ 0 = omega arith in
    l.invariant.0
    ∙ ap (λ (m : ℕ). read_records form m l.n (take (start_of l.n) l.d) l.rest.now) none
    ∙ ap (λ (d : List ℕ). read_records form 0 l.n d l.rest.now) (take_all (start_of l.n) l.d (omega (arith, l.invariant.1, ap start_of last)))

whole : (c : After-loop-n) → length c.loop-n.rest.now ≡ 0 → decode_as (form_number c.args.form) c.args.file.now ≡ found c.loop-n.d []
whole c h = let l = c.loop-n in ended c ∙ records_end (form_number c.args.form) l.n l.d l.rest.now h

pub loop-n-init : goal.loop-n-init
unfolding decode_as
loop-n-init c = (refl, search rules)

pub loop-n-preserved : goal.loop-n-preserved
loop-n-preserved c =
    let l = c.loop-n in
    let p = c.nth.result in
    (l.invariant.0 ∙ took (form_number c.args.form) l.n p.place (slot_in p.slot) l.d l.rest.now (omega arith) c.nth.ensures.slot c.nth.ensures.place c.read.new.d c.in_ok-rest.rest.now c.read.ensures.before c.in_ok-rest.ensures.numbers, c.read.array_long)

pub returns-in_err-rest-clause-refusal : goal.returns-in_err-rest-clause-refusal
returns-in_err-rest-clause-refusal c =
    let l = c.loop-n in
    let p = c.nth.result in
    let form = form_number c.args.form in
    let n = refusal_number c.in_err-rest.field-0.0 in
    let k = err_from_is_err_and c.from_residual.result c.from_residual.ensures.1 in
    rw (k.1, k.2) (refusal_refused form c.args.file.now n (l.invariant.0 ∙ refuses form l.n p.place (slot_in p.slot) l.d l.rest.now (omega arith) c.nth.ensures.slot c.nth.ensures.place n c.in_err-rest.ensures.numbers))

pub returns-then-not-is_empty-clause-refusal : goal.returns-then-not-is_empty-clause-refusal
returns-then-not-is_empty-clause-refusal c =
    let l = c.loop-n in
    let form = form_number c.args.form in
    refusal_refused form c.args.file.now bytes_follow (ended (goal.at.returns-then-not-is_empty-clause-refusal c).After-loop-n ∙ records_over form l.n l.d l.rest.now (search (rules, tests)))

pub returns-clause-refusal : goal.returns-clause-refusal
returns-clause-refusal c =
    refusal_found (form_number c.args.form) c.args.file.now c.loop-n.d [] (whole (goal.at.returns-clause-refusal c).After-loop-n (search (rules, tests)))

pub returns-clause-district : goal.returns-clause-district
returns-clause-district c =
    district_found (form_number c.args.form) c.args.file.now c.loop-n.d [] (whole (goal.at.returns-clause-district c).After-loop-n (search (rules, tests)))
