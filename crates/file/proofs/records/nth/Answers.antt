-- `nth` meets its contract: each record may stand where it does.
use Rattle.grammar.specs.Slots.{form_number}
use Rattle.grammar.proofs.Named.{is_form}
use Rattle.grammar.proofs.Slots.{ready}
use Rattle.file.proofs.records.nth.Goals as goal

pub invariant_of-result : goal.invariant_of-result
invariant_of-result c = record { ready = rw (c.slot_at.ensures, c.start_of.ensures) (ready (form_number c.args.form) (is_form c.args.form) c.args.n c.requires) }
