-- `read` meets its contract: the file is read in the form that it names.
use Rattle.grammar.specs.Slots.{form_number}
use Rattle.file.proofs.Forth.{load_own}
use Rattle.file.proofs.TwoForms.{read_own}
use Rattle.file.proofs.read.Goals as goal

pub returns : goal.returns
returns c =
    let r = c.read_as in
    let k = load_own (λ a. r.new.d) (form_number c.form_in.result) c.args.file.now (read_own _ c.args.file.now c.form_in.ensures) r.result r.ensures.refusal r.ensures.district in
    record { refusal = k.0; district = k.1; ranged = k.2 }
