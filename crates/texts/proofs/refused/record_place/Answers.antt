-- `refused::record_place` meets its contract: the record hangs on the places before it alone.
use Rattle.std.proofs.Common.{ℕ, ◌<◌, ◌≡◌, List, drop, refl, sym, ap, ◌∙◌, arith}
use borrow.Author.Tests.{ne_eqb}
use Rattle.file.proofs.Steps.{widths_take}
use Rattle.grammar.specs.Slots.{slot_in}
use Rattle.rules.specs.Answers.{refusal_number}
use Rattle.rules.specs.District.{District}
use Rattle.rules.specs.Format.{Slot}
use Rattle.rules.specs.declared.refusals.Refusal.{Refusal}
use Rattle.rules.specs.declared.refusals.Refusal.TheVariants.{CutShort, OtherKind, OtherLength}
use Rattle.texts.specs.Places.{number_place, record_place}
use Rattle.texts.proofs.Walked.{number_take}
use Rattle.texts.proofs.refused.record_place.Goals as goal

-- a refusal that is none of the first three
later : (r : Refusal) → (r ≡ CutShort → ⊥) → (r ≡ OtherKind → ⊥) → (r ≡ OtherLength → ⊥) → 3 < refusal_number r
later r a b e = grind arith

of_numbers : (k p : ℕ) (d : District) (s : Slot) (bs : List ℕ) → 3 < k → record_place k p d s bs ≡ number_place s.places p d s 0 (drop 4 bs)
unfolding record_place
of_numbers k p d s bs h = rw (ne_eqb k 1 (λ e. omega arith), ne_eqb k 2 (λ e. omega arith), ne_eqb k 3 (λ e. omega arith)) refl

pub returns-in-CutShort : goal.returns-in-CutShort
unfolding record_place
returns-in-CutShort c = rw c.in-CutShort.is refl

pub returns-in-OtherKind : goal.returns-in-OtherKind
unfolding record_place
returns-in-OtherKind c = rw (c.in-OtherKind.is, c.number-kind.ensures, c.take.ensures, c.drop.ensures, c.kind_number.ensures) refl

pub returns-in-OtherLength : goal.returns-in-OtherLength
unfolding record_place
returns-in-OtherLength c =
    let placed = c.args.placed in
    rw (c.in-OtherLength.is, c.number-size.ensures, c.take-in-OtherLength.ensures, c.payload.ensures, widths_take placed.ready c.args.d.now placed.slot.places 0 (omega arith)) refl

pub returns-in_default : goal.returns-in_default
returns-in_default c =
    let p = c.args.p in
    let d = c.args.d.now in
    let placed = c.args.placed in
    let s = slot_in placed.slot in
    let n = c.in_default in
    c.number_place.ensures
    ∙ ap (number_place s.places p d s 0) c.drop-in_default.ensures
    ∙ sym (of_numbers (refusal_number c.args.refusal) p _ s c.args.bytes.now (later c.args.refusal n.not-CutShort n.not-OtherKind n.not-OtherLength) ∙ number_take placed.ready d p s.places 0 (drop 4 c.args.bytes.now) (omega arith))
