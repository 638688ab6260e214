-- `read` meets its contract: the tests that led to each answer say which case of the definition holds.
use Prim.Native.Nat.{ℕ, ◌+◌, ◌-◌, ◌≤◌}
use mathlib.Core.Path.{◌≡◌, sym, ap, ◌∙◌}
use mathlib.Core.Bool.{true, false}
use mathlib.Core.List.{List, []}
use native.Mathlib.Omega.{arith}
use lib.ListN.{length, take, drop, replicate}
use lib.Seq.{take-take}
use Rattle.std.proofs.lemmas.List.{drop-take}
use Rattle.std.proofs.lemmas.List.Edits.{length-between}
use Rattle.std.proofs.lemmas.Slice.{overwrites}
use Rattle.base.proofs.Buffers.{whole_tail}
use Rattle.base.specs.Bytes.{number_of}
use Rattle.rules.specs.File.{found, size, kind_in}
use Rattle.rules.specs.Format.{present}
use Rattle.grammar.specs.Slots.{slot_in}
use Rattle.file.proofs.Steps.{numbers_none, record_none, record_short, record_other, record_unlike, record_cut, record_there, widths_take}
use Rattle.file.proofs.records.Placed.read.Goals as goal
use Rattle.file.proofs.records.Placed.read.Goals.{After-number-kind, Then-not-is_present, Else-not-is_present}

-- what each test and each number shows
none : (c : Then-not-is_present) → let p = c.args.self in present (take p.place c.args.d.now) (slot_in p.slot) ≡ false
none c = c.args.self.ready.here c.args.d.now ∙ sym c.is_present.ensures ∙ c.if-not-is_present.true

there : (c : Else-not-is_present) → let p = c.args.self in present (take p.place c.args.d.now) (slot_in p.slot) ≡ true
there c = c.args.self.ready.here c.args.d.now ∙ sym c.is_present.ensures ∙ c.if-not-is_present.false

sized : (c : After-number-kind) → let p = c.args.self in c.payload-size.result ≡ size (take p.place c.args.d.now) (slot_in p.slot)
sized c =
    let p = c.args.self in
    c.payload-size.ensures ∙ sym (widths_take p.ready c.args.d.now p.slot.places 0 (omega arith))

len : (c : After-number-kind) → c.number-length.result ≡ number_of (take 2 c.args.file.now)
len c = c.number-length.ensures ∙ ap (λ (l : List ℕ). number_of (take 2 l)) c.in-Some.ensures.cases.1 ∙ ap number_of (take-take 2 4 c.args.file.now (omega arith))

kind : (c : After-number-kind) → c.number-kind.result ≡ kind_in c.args.file.now
kind c = c.number-kind.ensures ∙ ap number_of (whole_tail c.in-Some.header.now 2) ∙ ap (λ (l : List ℕ). number_of (drop 2 l)) c.in-Some.ensures.cases.1 ∙ ap number_of (drop-take 2 2 c.args.file.now)

long : (c : After-number-kind) → 4 ≤ length c.args.file.now
long c = c.in-Some.ensures.cases.0

due : (c : After-number-kind) → c.number-kind.result ≡ c.kind_number-due.result → kind_in c.args.file.now ≡ (slot_in c.args.self.slot).kind
due c e = sym (kind c) ∙ e ∙ c.kind_number-due.ensures

full : (c : After-number-kind) → c.number-length.result ≡ c.payload-size.result → let p = c.args.self in number_of (take 2 c.args.file.now) ≡ size (take p.place c.args.d.now) (slot_in p.slot)
full c e = sym (len c) ∙ e ∙ sized c

pub returns-then-not-is_present : goal.returns-then-not-is_present
returns-then-not-is_present c =
    let p = c.args.self in
    let d = c.args.d.now in
    let file = c.args.file.now in
    let none = none (goal.at.returns-then-not-is_present c).Then-not-is_present in
    let places : p.place + p.slot.places - p.place ≡ p.slot.places = omega arith in
    let room : p.place + p.slot.places ≤ length d = omega (arith, p.ready.room) in
    let part = length-between d p.place (p.place + p.slot.places) room ∙ places in
    let zeros = c.fill.ensures.after (λ y q. q) ∙ ap (λ (n : ℕ). replicate n 0) part in
    rw (places, zeros) (record {
      before = search (overwrites, arith);
      numbers =
          record_none (take p.place d) (slot_in p.slot) file none
          ∙ numbers_none p.slot.places (take p.place d) (slot_in p.slot) 0 [] file none
          ∙ ap (λ (l : List ℕ). found l file) (sym (search (overwrites, arith)));
    })

pub returns-in_default-clause-numbers : goal.returns-in_default-clause-numbers
returns-in_default-clause-numbers c =
    let p = c.args.self in
    record_short (take p.place c.args.d.now) (slot_in p.slot) c.args.file.now (there (goal.at.returns-in_default-clause-numbers c).Else-not-is_present) c.in_default.ensures.cases

pub returns-then-kind-due-clause-numbers : goal.returns-then-kind-due-clause-numbers
returns-then-kind-due-clause-numbers c =
    let p = c.args.self in
    let at = goal.at.returns-then-kind-due-clause-numbers c in
    record_other (take p.place c.args.d.now) (slot_in p.slot) c.args.file.now (there at.Else-not-is_present) (long at.After-number-kind) (λ q. c.if-kind-due.true (kind at.After-number-kind ∙ q ∙ sym c.kind_number-due.ensures))

pub returns-then-length-size-clause-numbers : goal.returns-then-length-size-clause-numbers
returns-then-length-size-clause-numbers c =
    let p = c.args.self in
    let at = goal.at.returns-then-length-size-clause-numbers c in
    record_unlike (take p.place c.args.d.now) (slot_in p.slot) c.args.file.now (there at.Else-not-is_present) (long at.After-number-kind) (due at.After-number-kind c.if-kind-due.false) (λ q. c.if-length-size.true (len at.After-number-kind ∙ q ∙ sym (sized at.After-number-kind)))

pub returns-then-body-size-clause-numbers : goal.returns-then-body-size-clause-numbers
returns-then-body-size-clause-numbers c =
    let p = c.args.self in
    let at = goal.at.returns-then-body-size-clause-numbers c in
    record_cut (take p.place c.args.d.now) (slot_in p.slot) c.args.file.now (there at.Else-not-is_present) (long at.After-number-kind) (due at.After-number-kind c.if-kind-due.false) (full at.After-number-kind c.if-length-size.false) (omega (arith, sized at.After-number-kind, c.in-Some.ensures.cases.4))

pub payload-size-requires : goal.payload-size-requires
payload-size-requires c = c.args.self.ready.few

pub read_numbers-requires : goal.read_numbers-requires
read_numbers-requires c = omega (arith, sized (goal.at.read_numbers-requires c).After-number-kind)

pub returns-clause-numbers : goal.returns-clause-numbers
returns-clause-numbers c =
    let p = c.args.self in
    let at = goal.at.returns-clause-numbers c in
    let file = c.args.file.now in
    let read = record_there (take p.place c.args.d.now) (slot_in p.slot) file (there at.Else-not-is_present) (long at.After-number-kind) (due at.After-number-kind c.if-kind-due.false) (full at.After-number-kind c.if-length-size.false) (omega (arith, sized at.After-number-kind, c.in-Some.ensures.cases.4)) in
    rw (read, ← c.in-Some.ensures.cases.2) c.read_numbers.ensures.numbers
