-- `pack` meets its contract.
use Rattle.std.proofs.Common.{ℕ, ◌≤◌, ◌≡◌, List, length, Result, Ok, Err, leb, refl, sym, ap, ◌∙◌, arith}
use Rattle.std.specs.Result.{result_unwrap_or}
use Rattle.base.specs.Text.{Put}
use Rattle.rules.specs.Answers.{Accepted, answer_in, buffer_too_short, unless}
use Rattle.rules.specs.Calls.{Export, exported}
use Rattle.rules.specs.File.{encode_as}
use Rattle.rules.specs.declared.refusals.Refusal.{Refusal}
use Rattle.grammar.specs.Slots.{form_number}
use Rattle.file.proofs.Longest.{longest_as}
use Rattle.file.proofs.Refusals.{exported_fits}
use Rattle.texts.specs.Complaints.{Complaint, complaint_text}
use Rattle.texts.specs.Programs.{packed}
use Rattle.texts.specs.Reading.{read_text}
use Rattle.texts.proofs.Loads.{read_ranged, file_packed}
use Rattle.texts.proofs.Short.{complaint_short}
use Rattle.texts.proofs.pack.Goals as goal

complaint_packed : (bs : List ℕ) (c : Complaint) → read_text bs ≡ Err c → packed bs ≡ complaint_text c
unfolding packed
complaint_packed bs c e = rw e refl

-- an export that fits is put
accepted : (r : Result ℕ Refusal) (n : ℕ) → answer_in r ≡ Accepted n → result_unwrap_or r 0 ≡ n
accepted (Ok m) n e = cc
accepted (Err x) n e = absurd cc

export_put : (bs old new : List ℕ) (r : Result ℕ Refusal) → length bs ≤ length old
    → record { answer = answer_in r; buffer = new } ≡ exported (unless (leb (length bs) (length old)) buffer_too_short 0) bs old → Put bs old new (result_unwrap_or r 0)
export_put bs old new r h e =
    let q = e ∙ sym (exported_fits (length bs) buffer_too_short bs old h) in
    record { count = accepted r (length bs) (ap (λ (x : Export). x.answer) q); bytes = ap (λ (x : Export). x.buffer) q }

pub put_complaint-requires : goal.put_complaint-requires
put_complaint-requires c = omega (arith, complaint_short c.args.text.now _ c.in-Err.ensures)

pub returns-in-Ok : goal.returns-in-Ok
returns-in-Ok c =
    let form = form_number c.in-Ok.form in
    let d = c.read_text.new.d in
    let r = read_ranged c.args.text.now _ c.in-Ok.ensures in
    rw (file_packed c.args.text.now _ c.in-Ok.ensures, c.unwrap_or.ensures)
    (export_put (encode_as form d) c.args.out.now c.export_as.new.buffer c.export_as.result (omega (arith, longest_as form r.0 d r.1)) c.export_as.ensures)

pub returns-in-Err : goal.returns-in-Err
returns-in-Err c = rw (complaint_packed c.args.text.now _ c.in-Err.ensures) c.put_complaint.ensures
