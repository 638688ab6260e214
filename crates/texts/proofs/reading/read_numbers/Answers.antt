-- `read_numbers` meets its contract: what is read in all is what is read from here on, after the values so far.
use Rattle.std.proofs.Common.{[], ℕ, ◌+◌, ◌-◌, ◌≡◌, length, take, drop, sym, ap, ◌∙◌, rules, arith}
use lib.Seq.{take-set-le}
use Rattle.std.proofs.lemmas.Result.{err_from_is_err_and}
use Rattle.texts.specs.Complaints.{NumberTooMany}
use Rattle.file.proofs.Steps.{less, stored}
use Rattle.grammar.specs.Slots.{slot_in}
use Rattle.rules.specs.District.{district_places}
use Rattle.texts.specs.Words.{words_in}
use Rattle.texts.specs.Reading.{read_numbers, found, wrong}
use Rattle.texts.specs.Found.{fault_in, reading_of}
use Rattle.texts.proofs.Lines.{number_found, number_wrong, read_here, due_here, too_many, all_found}
use Rattle.texts.proofs.reading.read_numbers.Goals as goal

pub loop-i-preserved : goal.loop-i-preserved
loop-i-preserved c =
    let l = c.loop-i in
    let s = slot_in c.args.s in
    let place = c.args.place in
    let u = take place c.args.d.now in
    let ws = words_in l.rest.now in
    let x = c.in_ok-x.x in
    let all : length l.d ≡ district_places = search rules in
    let e = read_here c.requires l.d u l.invariant.1 l.i ws (omega arith) _ (c.read_number.ensures ∙ ap reading_of c.in_ok-x.was) in (
      l.invariant.0
          ∙ ap (λ (m : ℕ). read_numbers m u s l.i (take l.i (drop place l.d)) ws) (less c.args.s.places l.i (omega arith))
          ∙ number_found (c.args.s.places - (l.i + 1)) u s l.i (take l.i (drop place l.d)) ws x (words_in c.in_ok-x.next.now) e
          ∙ rw (stored l.d place l.i x (omega (arith, c.requires.room))),
      take-set-le place l.d (place + l.i) x (omega arith) ∙ l.invariant.1,
    )

pub returns-in_err-x : goal.returns-in_err-x
returns-in_err-x c =
    let l = c.loop-i in
    let s = slot_in c.args.s in
    let u = take c.args.place c.args.d.now in
    let ws = words_in l.rest.now in
    let vs = take l.i (drop c.args.place l.d) in
    let p = err_from_is_err_and c.from_residual.result c.from_residual.ensures.1 in
    let e = read_here c.requires l.d u l.invariant.1 l.i ws (omega arith) _ (c.read_number.ensures ∙ ap reading_of c.in_err-x.was) in
    rw (p.1, p.2) (
    l.invariant.0
    ∙ ap (λ (m : ℕ). read_numbers m u s l.i vs ws) (less c.args.s.places l.i (omega arith))
    ∙ number_wrong (c.args.s.places - (l.i + 1)) u s l.i vs ws (fault_in c.in_err-x.field-0.0) e
    )

-- no number is to come
pub returns-in-None : goal.returns-in-None
returns-in-None c =
    let l = c.loop-i in
    let s = slot_in c.args.s in
    let none : c.args.s.places - l.i ≡ 0 = omega arith in
    let end : l.i ≡ c.args.s.places = omega arith in
    let vs = take l.i (drop c.args.place l.d) in (
      l.invariant.0
          ∙ ap (read_numbers (c.args.s.places - l.i) (take c.args.place c.args.d.now) s l.i vs) c.in-None.ensures
          ∙ all_found (take c.args.place c.args.d.now) s l.i (c.args.s.places - l.i) vs none
          ∙ ap (λ n. found (take n (drop c.args.place l.d)) []) end,
      l.invariant.1,
    )

pub returns-in-Some : goal.returns-in-Some
returns-in-Some c =
    let l = c.loop-i in
    let s = slot_in c.args.s in
    let u = take c.args.place c.args.d.now in
    let none : c.args.s.places - l.i ≡ 0 = omega arith in
    let vs = take l.i (drop c.args.place l.d) in
    l.invariant.0
    ∙ ap (read_numbers (c.args.s.places - l.i) u s l.i vs) c.in-Some.ensures
    ∙ too_many u s l.i (c.args.s.places - l.i) vs _ _ none
    ∙ ap (λ k. wrong (NumberTooMany k)) (due_here c.requires l.d u l.invariant.1 ∙ sym c.due_before.ensures)
