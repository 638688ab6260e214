-- What pack prints of a text that is no district's is no file: its third and fourth byte are the kind of no first record.
use Rattle.std.proofs.Common.{ℕ, ◌+◌, ◌-◌, ◌*◌, ◌<◌, ◌≡◌, true, List, [], ◌∷◌, ◌++◌, Err, refl, ap, arith}
use Rattle.base.specs.Text.{text, decimal}
use Rattle.rules.specs.Answers.{other_kind}
use Rattle.rules.specs.Calls.{load_refusal_of, load_refusal}
use Rattle.rules.specs.File.{form_in, decode_as, decode}
use Rattle.rules.specs.Format.{leader_form, present, slot_of, file_records}
use Rattle.grammar.proofs.Slots.{form_all}
use Rattle.file.proofs.Steps.{record_other, records_refused}
use Rattle.file.proofs.TwoForms.{form_in_lem}
use Rattle.texts.specs.Complaints.{Complaint, TooLong, InLine, fault_text, complaint_text}
use Rattle.texts.specs.Programs.{packed}
use Rattle.texts.specs.Reading.{read_text}

-- whatever stands behind the four bytes
kind_refused : (a b c e : ℕ) (rest : List ℕ) → leader_form < c + 256 * e → load_refusal (a ∷ b ∷ c ∷ e ∷ rest) ≡ other_kind
unfolding load_refusal load_refusal_of decode decode_as
kind_refused a b c e rest h =
    let bs = a ∷ b ∷ c ∷ e ∷ rest in
    let form = form_in bs in
    let there = form_all (λ (g : ℕ). present [] (slot_of g 0) ≡ true) refl refl form (form_in_lem bs) in
    let other =
    form_all (λ (g : ℕ). ¬ (c + 256 * (e + 256 * 0) ≡ (slot_of g 0).kind)) (λ q. omega (arith, q, h)) (λ q. omega (arith, q, h)) form (form_in_lem bs)
    in
    ap load_refusal_of (records_refused form (file_records - 1) 0 [] bs other_kind (record_other [] (slot_of form 0) bs there (omega arith) other))

complaint_refused : (c : Complaint) → load_refusal (complaint_text c) ≡ other_kind
unfolding complaint_text text
complaint_refused TooLong = kind_refused 116 104 101 32 _ (omega arith)
complaint_refused (InLine n f) = kind_refused 108 105 110 101 (32 ∷ (decimal n ++ (text ": " ++ (fault_text f ++ text "\n")))) (omega arith)

pub complaint_no_file : (bs : List ℕ) (c : Complaint) → read_text bs ≡ Err c → load_refusal (packed bs) ≡ other_kind
unfolding packed
complaint_no_file bs c e = rw e (complaint_refused c)
