-- A text's records one after another.
use Rattle.std.proofs.Common.{ℕ, suc, ◌+◌, ◌-◌, ◌<◌, ◌≡◌, List, [], ◌∷◌, ◌++◌, take, drop, refl, sym, ap, ◌∙◌}
use lib.Seq.{take-add}
use Rattle.file.proofs.Steps.{less}
use Rattle.rules.specs.District.{District}
use Rattle.rules.specs.Format.{present, slot_of, file_records, Slot}
use Rattle.texts.specs.Words.{Line}
use Rattle.texts.specs.Complaints.{BehindEnd, Complaint, InLine}
use Rattle.texts.specs.Reading.{wrong, found, read_record, read_records}

module _ (form last m n : ℕ) (d : District) (ls : List Line) where
  pub record_found : (vs : List ℕ) (rest : List Line) → read_record (present d (slot_of form n)) last d (slot_of form n) ls ≡ found vs rest
      → read_records form last (suc m) n d ls ≡ read_records form last m (n + 1) (d ++ vs) rest
  unfolding read_records
  record_found vs rest e = rw e

  pub record_wrong : (c : Complaint) → read_record (present d (slot_of form n)) last d (slot_of form n) ls ≡ wrong c → read_records form last (suc m) n d ls ≡ wrong c
  unfolding read_records
  record_wrong c e = rw e

-- what is read of the n-th record, with the numbers of those before up to its place, says of those from it on
module _ (form n place : ℕ) (s : Slot) (d : District) (ls : List Line) (h : n < file_records) (e : s ≡ slot_of form n) (own last : ℕ) (same : own ≡ last) where
  placed : read_record (present (take place d) (slot_of form n)) last (take place d) (slot_of form n) ls ≡ read_record (present (take place d) s) own (take place d) s ls
  placed = ap (λ k. read_record (present (take place d) (slot_of form n)) k (take place d) (slot_of form n) ls) (sym same) ∙ ap (λ t. read_record (present (take place d) t) own (take place d) t ls) (sym e)

  one_less : read_records form last (file_records - n) n (take place d) ls ≡ read_records form last (suc (file_records - (n + 1))) n (take place d) ls
  one_less = ap (λ (m : ℕ). read_records form last m n (take place d) ls) (less file_records n h)

  pub taken : (next : District) (rest : List Line) → read_record (present (take place d) s) own (take place d) s ls ≡ found (take s.places (drop place next)) rest → take place next ≡ take place d
      → read_records form last (file_records - n) n (take place d) ls ≡ read_records form last (file_records - (n + 1)) (n + 1) (take (place + s.places) next) rest
  taken next rest r b =
      let vs = take s.places (drop place next) in
      let joined : take place d ++ vs ≡ take (place + s.places) next = ap (λ l. l ++ vs) (sym b) ∙ sym (take-add place s.places next) in
      one_less
      ∙ record_found form last (file_records - (n + 1)) n (take place d) ls vs rest (placed ∙ r)
      ∙ ap (λ u. read_records form last (file_records - (n + 1)) (n + 1) u rest) joined

  pub refused : (c : Complaint) → read_record (present (take place d) s) own (take place d) s ls ≡ wrong c → read_records form last (file_records - n) n (take place d) ls ≡ wrong c
  refused c r = one_less ∙ record_wrong form last (file_records - (n + 1)) n (take place d) ls c (placed ∙ r)

-- no record is to come
module _ (form last n : ℕ) (d : District) (ls : List Line) where
  pub nothing_follows : ls ≡ [] → read_records form last 0 n d ls ≡ found d []
  unfolding read_records
  nothing_follows e = rw e refl

  pub line_follows : (l : Line) (rest : List Line) → ls ≡ l ∷ rest → read_records form last 0 n d ls ≡ wrong (InLine l.number BehindEnd)
  unfolding read_records
  line_follows l rest e = rw e refl
