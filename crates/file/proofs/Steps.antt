-- The rules' definitions one step at a time, as the loops take them.
use Prim.Native.Nat.{ℕ, zero, suc, ◌+◌, ◌-◌, ◌*◌, ◌≤◌, ◌<◌}
use mathlib.Core.Path.{◌≡◌, refl, sym, ap, ◌∙◌}
use mathlib.Core.Bool.{true, false}
use mathlib.Core.List.{List, [], ◌∷◌, ◌++◌, map, append-nil}
use native.Mathlib.Numerals.{add-one}
use native.Mathlib.Omega.{arith}
use lib.ListN.{length, get_or, take, drop, set, replicate, length-append, length-drop}
use lib.Seq.{append_snoc, get_or-drop, take-suc, take_all, take-add, take-suc-set, drop-set-add}
use Rattle.std.specs.List.{sum, range_with_len}
use Rattle.std.proofs.lemmas.List.Sums.{sum_by-cons}
use Rattle.base.proofs.Bytes.{length_bytes}
use Rattle.base.proofs.Choice.{picks, pick_yes, pick_no, pick_all}
use Rattle.base.specs.Bytes.{bytes_of, number_of}
use Rattle.rules.specs.District.{District, district_places}
use Rattle.rules.specs.File.{refused, found, value, widths, size, read_numbers, kind_in, read_record, read_records, number_bytes, header_bytes, record_bytes, records_bytes}
use Rattle.rules.specs.Format.{absent, ranged, present, field_at, inside, slot_of, file_records, Slot}
use Rattle.rules.specs.declared.Field.{Field}
use Rattle.rules.specs.Answers.{cut_short, other_kind, other_length, out_of_range, bytes_follow}
use Rattle.grammar.specs.Places.{start_of, Ready}
use Rattle.grammar.proofs.Slots.{width_small, few_places, start_next}

-- one less to come
pub less : (m n : ℕ) → n < m → m - n ≡ suc (m - (n + 1))
less m n h = omega arith

-- ---- widths

pub widths_step : (m : ℕ) (d : District) (s : Slot) (n : ℕ) (f : Field) → n < m → f ≡ field_at d s n → widths (m - n) d s n ≡ f.width + widths (m - (n + 1)) d s (n + 1)
widths_step m d s n f h e = rw (less m n h, e)

pub widths_small : (m : ℕ) (d : District) (s : Slot) (n : ℕ) → widths m d s n ≤ 4 * m
widths_small zero d s n = omega arith
widths_small (suc m) d s n = omega (arith, width_small d s n, widths_small m d s (n + 1))

-- they are added up in their order
module _ (d : District) (s : Slot) where
  abbrev pub width : ℕ → ℕ
  width i = (field_at d s i).width

  pub widths_listed : (m n : ℕ) → sum (map width (range_with_len n m)) ≡ widths m d s n
  widths_listed zero n = refl
  widths_listed (suc m) n = sum_by-cons (λ x. x) (width n) (map width (range_with_len (n + 1) m)) ∙ ap (λ k. width n + k) (widths_listed m (n + 1))

-- a record that is not there has no bytes
pub widths_none : (m : ℕ) (d : District) (s : Slot) (n : ℕ) → present d s ≡ false → widths m d s n ≡ 0
unfolding field_at
widths_none zero d s n t = refl
widths_none (suc m) d s n t = rw (t, widths_none m d s (n + 1) t)

-- the size of a record hangs on what stands before it alone
pub widths_take : {s : Slot} {place : ℕ} → Ready s place → (d : District) (m n : ℕ) → n + m ≤ s.places → widths m (take place d) s n ≡ widths m d s n
widths_take r d zero n h = refl
widths_take r d (suc m) n h = rw (r.field d n (omega arith), widths_take r d m (n + 1) (omega arith))

-- ---- reading a record's numbers

module _ (m : ℕ) (d : District) (s : Slot) (n : ℕ) (vs bs : List ℕ) (f : Field) (x : ℕ) (fe : f ≡ field_at d s n) (xe : x ≡ value f bs) where
  pub number_good : inside f x ≡ true → read_numbers (suc m) d s n vs bs ≡ read_numbers m d s (n + 1) (vs ++ x ∷ []) (drop f.width bs)
  unfolding read_numbers
  number_good t = rw (xe, fe) (sym (pick_yes _ _ _ _ (rw fe at (rw xe at t)) refl))

  pub number_bad : inside f x ≡ false → read_numbers (suc m) d s n vs bs ≡ refused out_of_range
  unfolding read_numbers
  number_bad t = sym (pick_no _ _ _ _ (rw fe at (rw xe at t)) refl)

-- a record that is not there: each of its numbers is 0, and has no bytes
pub numbers_none : (m : ℕ) (d : District) (s : Slot) (n : ℕ) (vs bs : List ℕ) → present d s ≡ false → read_numbers m d s n vs bs ≡ found (vs ++ replicate m 0) bs
unfolding read_numbers field_at ranged
numbers_none zero d s n vs bs t = ap (λ (l : List ℕ). found l bs) (sym (append-nil vs))
numbers_none (suc m) d s n vs bs t =
    number_good m d s n vs bs absent 0 (pick_no _ _ _ _ t refl) refl refl
    ∙ numbers_none m d s (n + 1) (vs ++ 0 ∷ []) bs t
    ∙ ap (λ (l : List ℕ). found l bs) (append_snoc vs 0 (replicate m 0))

-- a value more
pub stored : (d : List ℕ) (place i x : ℕ) → place + i < length d → take (i + 1) (drop place (set d (place + i) x)) ≡ take i (drop place d) ++ x ∷ []
stored d place i x h =
    let l : i < length (drop place d) = simp length-drop (omega arith) in
    rw (drop-set-add place d i x, add-one i) (take-suc-set (drop place d) i x l)

-- a value more, which stands there
pub value_more : (d : List ℕ) (place i : ℕ) → place + i < length d → take i (drop place d) ++ get_or d (place + i) 0 ∷ [] ≡ take (i + 1) (drop place d)
value_more d place i h =
    let l : i < length (drop place d) = simp length-drop (omega arith) in
    rw (add-one i, take-suc (drop place d) i 0 l, get_or-drop place d i 0)

-- the places of all records are those of the district
pub all_places : (d : List ℕ) → length d ≡ district_places → (n : ℕ) → n ≡ file_records → take (start_of n) d ≡ d
all_places d l n z = rw z (take_all district_places d (omega arith))

-- ---- the bytes of a record

pub length_numbers : (m : ℕ) (d : District) (s : Slot) (n place : ℕ) → length (number_bytes m d s n place) ≡ widths m d s n
unfolding number_bytes
length_numbers zero d s n place = refl
length_numbers (suc m) d s n place =
    length-append (bytes_of (field_at d s n).width (get_or d place 0)) (number_bytes m d s (n + 1) (place + 1))
    ∙ rw (length_bytes (field_at d s n).width (get_or d place 0), length_numbers m d s (n + 1) (place + 1))

module _ (d : District) (s : Slot) where
  pub header_there : present d s ≡ true → header_bytes d s ≡ bytes_of 2 (size d s) ++ bytes_of 2 s.kind
  header_there t = sym (pick_yes _ _ _ _ t refl)

  pub header_none : present d s ≡ false → header_bytes d s ≡ []
  header_none t = sym (pick_no _ _ _ _ t refl)

  length_record : (place : ℕ) → length (record_bytes d s place) ≡ length (header_bytes d s) + size d s
  length_record place = length-append (header_bytes d s) (number_bytes s.places d s 0 place) ∙ rw (length_numbers s.places d s 0 place)

  pub length_there : (place : ℕ) → present d s ≡ true → length (record_bytes d s place) ≡ 4 + size d s
  length_there place t = omega (arith, length_record place, ap length (header_there t))

  pub length_none : (place : ℕ) → present d s ≡ false → length (record_bytes d s place) ≡ 0
  length_none place t = omega (arith, length_record place, ap length (header_none t), widths_none s.places d s 0 t)

-- a number less to write
pub numbers_step : (m : ℕ) (d : District) (s : Slot) (n place : ℕ) (f : Field) → n < m → f ≡ field_at d s n → number_bytes (m - n) d s n (place + n) ≡ bytes_of f.width (get_or d (place + n) 0) ++ number_bytes (m - (n + 1)) d s (n + 1) (place + (n + 1))
unfolding number_bytes
numbers_step m d s n place f h e =
    let q : place + (n + 1) ≡ place + n + 1 = omega arith in
    rw (less m n h, e, q)

-- a record less to write, wherever its numbers stand
pub records_step : (form : ℕ) (d : District) (n place : ℕ) (s : Slot) → n < file_records → s ≡ slot_of form n → records_bytes form (file_records - n) d n place ≡ record_bytes d s place ++ records_bytes form (file_records - (n + 1)) d (n + 1) (place + s.places)
unfolding records_bytes
records_step form d n place s h e = rw (less file_records n h, e)

-- where they stand after those of the records before, the next record's do too
pub placed_step : (form : ℕ) (d : District) (n place : ℕ) (s : Slot) → n < file_records → s ≡ slot_of form n → place ≡ start_of n → records_bytes form (file_records - n) d n (start_of n) ≡ record_bytes d s place ++ records_bytes form (file_records - (n + 1)) d (n + 1) (start_of (n + 1))
placed_step form d n place s h e p =
    let end : place + s.places ≡ start_of (n + 1) = omega (arith, p, ap (λ (t : Slot). t.places) e, start_next form n) in
    ap (λ (q : ℕ). records_bytes form (file_records - n) d n q) (sym p)
    ∙ records_step form d n place s h e
    ∙ ap (λ (q : ℕ). record_bytes d s place ++ records_bytes form (file_records - (n + 1)) d (n + 1) q) end

-- the lengths of the records are added up in their order
module _ (form : ℕ) (d : District) where
  abbrev pub long : ℕ → ℕ
  long n = length (record_bytes d (slot_of form n) (start_of n))

  pub records_listed : (m n : ℕ) → sum (map long (range_with_len n m)) ≡ length (records_bytes form m d n (start_of n))
  unfolding records_bytes
  records_listed zero n = refl
  records_listed (suc m) n =
      sum_by-cons (λ x. x) (long n) (map long (range_with_len (n + 1) m))
      ∙ ap (λ k. long n + k) (records_listed m (n + 1))
      ∙ sym (length-append (record_bytes d (slot_of form n) (start_of n)) (records_bytes form m d (n + 1) (start_of (n + 1))))
      ∙ rw (start_next form n) refl

-- the bytes of m records of a form, from the n-th on
unfoldable pub total : ℕ → ℕ → District → ℕ → ℕ
total form zero d n = 0
total form (suc m) d n = (length (header_bytes d (slot_of form n)) + size d (slot_of form n)) + total form m d (n + 1)

pub length_records : (form : ℕ) (d : District) (m n place : ℕ) → length (records_bytes form m d n place) ≡ total form m d n
unfolding records_bytes total
length_records form d zero n place = refl
length_records form d (suc m) n place =
    let s = slot_of form n in
    length-append (record_bytes d s place) (records_bytes form m d (n + 1) (place + s.places))
    ∙ omega (arith, length_record d s place, length_records form d m (n + 1) (place + s.places))

pub total_small : (form m : ℕ) (d : District) (n : ℕ) → total form m d n ≤ 464 * m
unfolding total
total_small form zero d n = omega arith
total_small form (suc m) d n =
    let s = slot_of form n in
    let h = pick_all (λ (l : List ℕ). length l ≤ 4) (present d s) (bytes_of 2 (size d s) ++ bytes_of 2 s.kind) [] (omega arith) (omega arith) in
    omega (arith, h, widths_small s.places d s 0, few_places form n, total_small form m d (n + 1))

-- ---- reading a record

module _ (d : District) (s : Slot) (bs : List ℕ) where
  pub record_none : present d s ≡ false → read_record d s bs ≡ read_numbers s.places d s 0 [] bs
  unfolding read_record
  record_none t = sym (pick_no _ _ _ _ t refl)

-- one that the district has: its tests in their order
module _ (d : District) (s : Slot) (bs : List ℕ) (t : present d s ≡ true) where
  pub record_short : length bs < 4 → read_record d s bs ≡ refused cut_short
  unfolding read_record
  record_short h = sym (search picks depth 10)

  module _ (l : 4 ≤ length bs) where
    pub record_other : ¬ (kind_in bs ≡ s.kind) → read_record d s bs ≡ refused other_kind
    unfolding read_record
    record_other k = sym (search picks depth 10)

    module _ (k : kind_in bs ≡ s.kind) where
      pub record_unlike : ¬ (number_of (take 2 bs) ≡ size d s) → read_record d s bs ≡ refused other_length
      unfolding read_record
      record_unlike n = sym (search picks depth 10)

      module _ (n : number_of (take 2 bs) ≡ size d s) where
        pub record_cut : length bs - 4 < size d s → read_record d s bs ≡ refused cut_short
        unfolding read_record
        record_cut h = sym (search picks depth 10)

        pub record_there : size d s ≤ length bs - 4 → read_record d s bs ≡ read_numbers s.places d s 0 [] (drop 4 bs)
        unfolding read_record
        record_there h = sym (search picks depth 10)

-- ---- reading the file

pub records_found : (form m n : ℕ) (d bs vs rest : List ℕ) → read_record d (slot_of form n) bs ≡ found vs rest → read_records form (suc m) n d bs ≡ read_records form m (n + 1) (d ++ vs) rest
unfolding read_records
records_found form m n d bs vs rest e = rw e

pub records_refused : (form m n : ℕ) (d bs : List ℕ) (k : ℕ) → read_record d (slot_of form n) bs ≡ refused k → read_records form (suc m) n d bs ≡ refused k
unfolding read_records
records_refused form m n d bs k e = rw e

pub records_end : (form n : ℕ) (d bs : List ℕ) → length bs ≡ 0 → read_records form 0 n d bs ≡ found d []
unfolding read_records
records_end form n d [] h = refl
records_end form n d (b ∷ bs) h = absurd (omega arith)

pub records_over : (form n : ℕ) (d bs : List ℕ) → 0 < length bs → read_records form 0 n d bs ≡ refused bytes_follow
unfolding read_records
records_over form n d [] h = absurd (omega arith)
records_over form n d (b ∷ bs) h = refl

-- what is read of the n-th record, which has its place after the numbers of those before, says of those from it on
module _ (form n place : ℕ) (slot : Slot) (d bs : List ℕ) (h : n < file_records) (e : slot ≡ slot_of form n) (p : place ≡ start_of n) where
  pub placed : read_record (take (start_of n) d) (slot_of form n) bs ≡ read_record (take place d) slot bs
  placed = ap (λ (s : Slot). read_record (take (start_of n) d) s bs) (sym e) ∙ ap (λ (q : ℕ). read_record (take q d) slot bs) (sym p)

  pub joined : (next : List ℕ) → take place next ≡ take place d → take (start_of n) d ++ take slot.places (drop place next) ≡ take (start_of (n + 1)) next
  joined next before =
      let vs = take slot.places (drop place next) in
      let end : place + slot.places ≡ start_of (n + 1) = omega (arith, p, ap (λ (s : Slot). s.places) e, start_next form n) in
      ap (λ (q : ℕ). take q d ++ vs) (sym p) ∙ ap (λ (l : List ℕ). l ++ vs) (sym before) ∙ sym (take-add place slot.places next) ∙ ap (λ (q : ℕ). take q next) end

  one_less : read_records form (file_records - n) n (take (start_of n) d) bs ≡ read_records form (suc (file_records - (n + 1))) n (take (start_of n) d) bs
  one_less = ap (λ (m : ℕ). read_records form m n (take (start_of n) d) bs) (less file_records n h)

  pub took : (next rest : List ℕ) → take place next ≡ take place d → read_record (take place d) slot bs ≡ found (take slot.places (drop place next)) rest → read_records form (file_records - n) n (take (start_of n) d) bs ≡ read_records form (file_records - (n + 1)) (n + 1) (take (start_of (n + 1)) next) rest
  took next rest before r =
      one_less
      ∙ records_found form (file_records - (n + 1)) n (take (start_of n) d) bs (take slot.places (drop place next)) rest (placed ∙ r)
      ∙ ap (λ (l : List ℕ). read_records form (file_records - (n + 1)) (n + 1) l rest) (joined next before)

  pub refuses : (k : ℕ) → read_record (take place d) slot bs ≡ refused k → read_records form (file_records - n) n (take (start_of n) d) bs ≡ refused k
  refuses k r = one_less ∙ records_refused form (file_records - (n + 1)) n (take (start_of n) d) bs k (placed ∙ r)
