-- Where a file is refused, record by record, as the code walks over it: the district has the places before the record, and is asked of these alone.
use Rattle.std.proofs.Common.{ℕ, zero, suc, ◌+◌, ◌-◌, ◌≤◌, ◌<◌, ◌≡◌, Bool, true, false, None, Some, List, [], ◌∷◌, ◌++◌, length, take, drop, refl, ◌∙◌, arith}
use Rattle.base.specs.Choice.{pick}
use Rattle.grammar.specs.Places.{start_of, Ready}
use Rattle.file.proofs.Steps.{less, placed, joined}
use Rattle.rules.specs.District.{District}
use Rattle.rules.specs.File.{refused, found, value, read_record}
use Rattle.rules.specs.Format.{field_at, present, inside, slot_of, file_records, Slot}
use Rattle.texts.specs.Records.{due_in}
use Rattle.texts.specs.Places.{Place, BehindEnd, unless_in_range, number_place, record_place, or_behind, places_from}

-- ---- the district may have more places

module _ {s : Slot} {place : ℕ} (r : Ready s place) (d : District) where
  due_take : (m n : ℕ) → n + m ≤ s.places → due_in m (take place d) s n ≡ due_in m d s n
  unfolding due_in
  due_take zero n h = refl
  due_take (suc m) n h = rw (r.field d n (omega arith), due_take m (n + 1) (omega arith)) refl

  module _ (p : ℕ) where
    told_take : (t : Bool) (n x : ℕ) {early later : Place} → n < s.places → early ≡ later → unless_in_range t p (take place d) s n x early ≡ unless_in_range t p d s n x later
    told_take true n x h e = e
    told_take false n x h e = rw (r.field d n h, due_take n 0 (omega arith)) refl

    pub number_take : (m n : ℕ) (bs : List ℕ) → n + m ≤ s.places → number_place m p (take place d) s n bs ≡ number_place m p d s n bs
    unfolding number_place
    number_take zero n bs h = refl
    number_take (suc m) n bs h =
        let e = r.field d n (omega arith) in
        let f = field_at d s n in
        rw e (told_take (inside f (value f bs)) n (value f bs) (omega arith) (number_take m (n + 1) (drop f.width bs) (omega arith)))

-- ---- the records in their order

-- what the n-th record says of those from it on
module _ (form n p place : ℕ) (s : Slot) (d bs : List ℕ) (h : n < file_records) (e : s ≡ slot_of form n) (q : place ≡ start_of n) where
  one_less :
      places_from form (file_records - n) n p (take (start_of n) d) bs
      ≡ or_behind (read_record (take (start_of n) d) (slot_of form n) bs) p (take (start_of n) d) (slot_of form n) bs
      (λ vs rest. places_from form (file_records - (n + 1)) (n + 1) (p + pick (present (take (start_of n) d) (slot_of form n)) 1 0) (take (start_of n) d ++ vs) rest)
  unfolding places_from
  one_less = rw (less file_records n h) refl

  pub goes_on : (next rest : List ℕ) → take place next ≡ take place d → read_record (take place d) s bs ≡ found (take s.places (drop place next)) rest
      → places_from form (file_records - n) n p (take (start_of n) d) bs
      ≡ places_from form (file_records - (n + 1)) (n + 1) (p + pick (present (take place d) s) 1 0) (take (start_of (n + 1)) next) rest
  goes_on next rest b r =
      one_less
      ∙ rw (placed form n place s d bs h e q ∙ r, joined form n place s d bs h e q next b, ← q, ← e) refl

  pub stops : (k : ℕ) → read_record (take place d) s bs ≡ refused k → places_from form (file_records - n) n p (take (start_of n) d) bs ≡ Some (record_place k p (take place d) s bs)
  stops k r = one_less ∙ rw (placed form n place s d bs h e q ∙ r, ← q, ← e) refl

-- no record is to come
module _ (form n p : ℕ) (d : District) where
  pub nothing_behind : (bs : List ℕ) → length bs ≡ 0 → places_from form 0 n p d bs ≡ None
  unfolding places_from
  nothing_behind [] h = refl
  nothing_behind (b ∷ bs) h = absurd (omega arith)

  pub bytes_behind : (bs : List ℕ) → 0 < length bs → places_from form 0 n p d bs ≡ Some (BehindEnd (length bs))
  unfolding places_from
  bytes_behind [] h = absurd (omega arith)
  bytes_behind (b ∷ bs) h = refl
