-- The longest text is that of a district with every number at its longest. No number has more digits in any other.
use Rattle.std.proofs.Common.{ℕ, zero, suc, ◌+◌, ◌-◌, ◌/◌, ◌%◌, ◌≤◌, ◌<◌, ◌≡◌, Bool, true, false, ltb, leb, eqb, List, [], ◌∷◌, ◌++◌, length, drop, get_or, ℤ, pos, negsuc, nat_abs, refl, sym, ap, ◌∙◌, inl, inr, add-zero, zero-add, add-one, length-append, arith}
use Rattle.std.proofs.lemmas.List.{drop_at}
use lib.Seq.{get_or-drop, drop-drop}
use borrow.Author.Tests.{leb-true, le-leb, lt-ltb, le-ltb, ltb-true, ltb-false, eqb-true}
use Rattle.base.specs.Bytes.{signed}
use Rattle.base.specs.Choice.{pick}
use Rattle.base.specs.Over.{all}
use Rattle.base.specs.Text.{text, digits_of, decimal}
use Rattle.base.proofs.All.{all_at}
use Rattle.base.proofs.Choice.{pick_all}
use Rattle.base.proofs.Digits.{decimal_within}
use Rattle.rules.specs.District.{District, value_at, count_places, greatest_place, district_places, most_distresses, ratings_at, leader_at, per_segment, segments_of, pavements_of, greatest_of}
use Rattle.rules.specs.File.{in_range}
use Rattle.rules.specs.Format.{plain_form, leader_form, number, absent, ranged, inside, slot, slot_of, present, first_pavement_record, first_segment_record, last_record, file_records, kind_field, field_at, Slot}
use Rattle.rules.specs.declared.Field.{Field}
use Rattle.grammar.specs.Places.{Form, start_of}
use Rattle.grammar.proofs.Bounds.{between_number, inside_between, inside_number, gain_most}
use Rattle.grammar.proofs.InRange.{InRange, in_range_lem, range_in}
use Rattle.grammar.proofs.InRanges.{pavements}
use Rattle.grammar.proofs.Slots.{form_all, slot_all, places_same, start_next, present_same, field_same}
use Rattle.file.proofs.Tops.{widest, field_top}
use Rattle.texts.specs.Numbers.{written}
use Rattle.texts.specs.Pieces.{due_text}
use Rattle.texts.specs.Printing.{number_text, numbers_text, comment_of, record_text, records_text, text_of}
use Rattle.texts.specs.Promises.{longest_printed}
use Rattle.texts.specs.Records.{word_of, name_of, is_due}
use Rattle.texts.proofs.Fields.{field_all}

-- ---- digits

-- a greater number has no fewer
digits_grow : (k a b : ℕ) → a ≤ b → length (digits_of k a) ≤ length (digits_of k b)
unfolding digits_of
digits_grow zero a b h = omega arith
digits_grow (suc k) a b h = go (ltb a 10) refl (ltb b 10) refl (digits_grow k (a / 10) (b / 10) (omega arith))
  where
    go : (s : Bool) → ltb a 10 ≡ s → (t : Bool) → ltb b 10 ≡ t → length (digits_of k (a / 10)) ≤ length (digits_of k (b / 10))
        → length (pick s ((48 + a) ∷ []) (digits_of k (a / 10) ++ ((48 + a % 10) ∷ []))) ≤ length (pick t ((48 + b) ∷ []) (digits_of k (b / 10) ++ ((48 + b % 10) ∷ [])))
    go true e true q ih = omega arith
    go true e false q ih = omega (arith, length-append (digits_of k (b / 10)) ((48 + b % 10) ∷ []))
    go false e true q ih = absurd (omega (arith, ltb-false a 10 e, ltb-true b 10 q))
    go false e false q ih = omega (arith, length-append (digits_of k (a / 10)) ((48 + a % 10) ∷ []), length-append (digits_of k (b / 10)) ((48 + b % 10) ∷ []))

decimal_grows : (a b : ℕ) → a ≤ b → length (decimal a) ≤ length (decimal b)
unfolding decimal
decimal_grows a b h = digits_grow 20 a b h

-- ---- a number of a field

-- how many bytes it has at most, with its space, and with a sign where the range begins with a negative byte
room : Field → ℕ
room f = pick (ltb 0 f.width) (1 + (pick (ltb f.lo 128) 0 1 + length (decimal f.hi))) 0

-- a number that has so many
top : Field → ℕ
top f = pick (ltb f.hi f.lo) f.lo f.hi

-- of one number, where the district has it
abbrev taken : Field → ℕ → ℕ
taken f x = length (pick (ltb 0 f.width) (number_text f x) [])

-- no number that the field may hold has more, and one has as many
record Roomy (f : Field) : Type 0 where
  roomy : (x : ℕ) → (ltb 0 f.width ≡ true → inside f x ≡ true) → taken f x ≤ room f
  held : inside f (top f) ≡ true
  filled : taken f (top f) ≡ room f

roomy_number : (w lo hi : ℕ) → 0 < w → lo < 128 → leb lo hi ≡ true → Roomy (number w lo hi)
unfolding room top text written
roomy_number w lo hi some low e =
    let straight = le-ltb hi lo (leb-true lo hi e) in
    record { roomy = each; held = rw straight (inside_number w lo hi hi (leb-true lo hi e) (omega arith)); filled = rw (lt-ltb 0 w some, lt-ltb lo 128 low, straight) (omega arith) }
  where
    each : (x : ℕ) → (ltb 0 w ≡ true → inside (number w lo hi) x ≡ true) → taken (number w lo hi) x ≤ room (number w lo hi)
    each x i =
        let b = inside_between lo hi (number w lo hi) x (between_number lo hi w lo hi e (omega arith) (omega arith)) (i (lt-ltb 0 w some)) in
        rw (lt-ltb 0 w some, lt-ltb lo 128 low, le-ltb hi lo (leb-true lo hi e)) (omega (arith, decimal_grows x hi b.1))

small_short : (v : ℤ) → nat_abs v ≤ 50 → length (written v) ≤ 3
unfolding written
small_short (pos n) h = omega (arith, decimal_within 2 n (omega arith) (omega arith))
small_short (negsuc n) h = omega (arith, decimal_within 2 (suc n) (omega arith) (omega arith))

gain_room : room (number 1 206 50) ≡ 4
unfolding room decimal digits_of
gain_room = refl

roomy_gain : Roomy (number 1 206 50)
unfolding text room top written ranged decimal digits_of
roomy_gain = record { roomy = λ x i. omega (arith, gain_room, small_short (signed x) (gain_most x (i refl))); held = refl; filled = refl }

roomy_absent : Roomy absent
unfolding room top ranged
roomy_absent = record { roomy = λ x i. omega arith; held = refl; filled = refl }

field_roomy : (d : District) → leb 1 (pavements_of d) ≡ true → (s : Slot) (n : ℕ) → Roomy (field_at d s n)
field_roomy d some = field_all Roomy roomy_number roomy_gain roomy_absent d (roomy_number 1 1 (pavements_of d) (omega arith) (omega arith) some)

-- the greater its greatest number, the more
room_grows : (w lo hi top : ℕ) → hi ≤ top → room (number w lo hi) ≤ room (number w lo top)
unfolding room
room_grows w lo hi top h = go (ltb 0 w)
  where
    go : (t : Bool) → pick t (1 + (pick (ltb lo 128) 0 1 + length (decimal hi))) 0 ≤ pick t (1 + (pick (ltb lo 128) 0 1 + length (decimal top))) 0
    go true = omega (arith, decimal_grows hi top h)
    go false = omega arith

absent_room : room absent ≡ 0
unfolding room
absent_room = refl

-- ---- the text of a district in a form

-- the n-th number of the record, where every count and every greatest rating is at its greatest
abbrev widest_field : Slot → ℕ → Field
widest_field s n = kind_field widest s n

-- how many bytes m numbers of the record have at most, from its n-th on
numbers_room : ℕ → Slot → ℕ → ℕ
numbers_room zero s n = 0
numbers_room (suc m) s n = room (widest_field s n) + numbers_room m s (n + 1)

-- how many the numbers of a record have, counted once for each kind
abbrev kind_room : Slot → ℕ
kind_room s =
    pick (eqb s.kind s.form) 16
    (pick (eqb s.kind 2) 160
    (pick (eqb s.kind 3) 27
    (pick (eqb s.kind 4) 508
    (pick (eqb s.kind 5) 274
    (pick (eqb s.kind 6) (53 + pick (eqb s.form leader_form) (1 + length (decimal s.nth)) 0)
    0)))))

abbrev Counted : Slot → Type 0
Counted s = numbers_room s.places s 0 ≡ kind_room s

-- a record, and m records of a form, from the n-th on
record_room : Slot → ℕ
record_room s = length (word_of s.kind) + (kind_room s + (length (comment_of s) + 1))

records_room : ℕ → ℕ → ℕ → ℕ
records_room form zero n = 0
records_room form (suc m) n = record_room (slot_of form n) + records_room form m (n + 1)

counted : (form : ℕ) → Form form → (n : ℕ) → Counted (slot_of form n)
unfolding numbers_room widest room greatest_of decimal digits_of
counted form f =
    form_all (λ (g : ℕ). (n : ℕ) → Counted (slot_of g n)) (slot_all Counted plain_form refl refl refl (λ j. refl) (λ y. refl) (λ i. refl) refl)
    (slot_all Counted leader_form refl refl refl (λ j. refl) (λ y. refl) (λ i. omega arith) refl) form f

longest_led : records_room leader_form file_records 0 ≡ longest_printed
unfolding records_room record_room word_of name_of comment_of text decimal digits_of
longest_led = refl

longest_plain : records_room plain_form file_records 0 + 186 ≡ longest_printed
unfolding records_room record_room word_of name_of comment_of text decimal digits_of
longest_plain = refl

-- an order that sums keep holds of a text and its room where it holds of each number and its room
module _ (R : ℕ → ℕ → Type 0) (same : (n : ℕ) → R n n) (plus : (a b m n : ℕ) → R a m → R b n → R (a + b) (m + n)) (d : District) where
  module _ (s : Slot) (base : ℕ) (each : (i : ℕ) → i < s.places → R (length (due_text d s i (base + i))) (room (widest_field s i))) where
    numbers_by : (m n place : ℕ) → n + m ≤ s.places → base + n ≡ place → R (length (numbers_text m d s n place)) (numbers_room m s n)
    unfolding numbers_text numbers_room
    numbers_by zero n place h e = same 0
    numbers_by (suc m) n place h e =
        rw (length-append (due_text d s n place) (numbers_text m d s (n + 1) (place + 1)))
        (plus _ _ _ _ (rw e at (each n (omega arith))) (numbers_by m (n + 1) (place + 1) (omega arith) (omega arith)))

    record_by : Counted s → R (length (record_text true d s base)) (record_room s)
    unfolding record_room text
    record_by all =
        rw (← all, length-append (word_of s.kind) (numbers_text s.places d s 0 base ++ (comment_of s ++ text "\n")), length-append (numbers_text s.places d s 0 base) (comment_of s ++ text "\n"), length-append (comment_of s) (text "\n"))
        (plus _ _ _ _ (same _) (plus _ _ _ _ (numbers_by s.places 0 base (omega arith) (omega arith)) (same _)))

  module _ (form : ℕ) (each : (n : ℕ) → n < file_records → R (length (record_text (present d (slot_of form n)) d (slot_of form n) (start_of n))) (record_room (slot_of form n))) where
    records_by : (m n : ℕ) → n + m ≤ file_records → R (length (records_text form m d n (start_of n))) (records_room form m n)
    unfolding records_text records_room
    records_by zero n h = same 0
    records_by (suc m) n h =
        let s = slot_of form n in
        rw (length-append (record_text (present d s) d s (start_of n)) (records_text form m d (n + 1) (start_of n + s.places)))
        (plus _ _ _ _ (each n (omega arith)) (rw (start_next form n) at (records_by m (n + 1) (omega arith))))

    text_by : R (length (text_of form d)) (records_room form file_records 0)
    unfolding text_of
    text_by = records_by file_records 0 (omega arith)

-- ---- where each number that the district has is in the range of the form with leaders

module _ (d : District) (ok : InRange leader_form d) where
  record_fits :
      (s : Slot) (base : ℕ) → Counted s → ((i : ℕ) → i < s.places → is_due d s i ≡ true → inside (field_at d s i) (value_at d (base + i)) ≡ true)
      → length (record_text (present d s) d s base) ≤ record_room s
  unfolding field_at
  record_fits s base all good = go (present d s)
    where
      fits : (i : ℕ) → i < s.places → length (due_text d s i (base + i)) ≤ room (widest_field s i)
      fits i h =
          let here = (field_roomy d (le-leb 1 (pavements_of d) (pavements d ok).0) s i).roomy (value_at d (base + i)) (good i h) in
          let there = pick_all (λ (f : Field). room f ≤ room (widest_field s i)) (present widest s) (widest_field s i) absent (omega arith) (omega (arith, absent_room)) in
          omega (arith, here, field_top d ok room absent_room room_grows s i, there)

      go : (t : Bool) → length (record_text t d s base) ≤ record_room s
      go false = omega arith
      go true = record_by (λ a b. a ≤ b) (λ n. omega arith) (λ a b m n h k. omega arith) d s base fits all

  text_fits :
      (form : ℕ) → Form form → ((n i : ℕ) → n < file_records → i < (slot_of form n).places → is_due d (slot_of form n) i ≡ true → inside (field_at d (slot_of form n) i) (value_at d (start_of n + i)) ≡ true)
      → length (text_of form d) ≤ records_room form file_records 0
  text_fits form f good =
      text_by (λ a b. a ≤ b) (λ n. omega arith) (λ a b m n h k. omega arith) d form (λ n h. record_fits (slot_of form n) (start_of n) (counted form f n) (λ i l q. good n i h l q))

-- ---- each number that the form without leaders has is one of the form with them

slots_alike : (P : Slot → Slot → Type 0) (t : Bool) (a b c e : Slot) → P a c → P b e → P (pick t a b) (pick t c e)
slots_alike P true a b c e h k = h
slots_alike P false a b c e h k = k

module _ (d : District) (i : ℕ) where
  abbrev DueAlike : Slot → Slot → Type 0
  DueAlike s t = i < s.places → is_due d s i ≡ true → field_at d s i ≡ field_at d t i

  segments_alike : (k : ℕ) → DueAlike (slot plain_form 6 per_segment k) (slot leader_form 6 per_segment k)
  unfolding field_at
  segments_alike k l e = go (ltb i leader_at) refl e
    where
      last : i ≡ leader_at → is_due d (slot plain_form 6 per_segment k) i ≡ false
      last q = rw q (pick_all (λ (f : Field). ltb 0 f.width ≡ false) (ltb k (segments_of d)) absent absent refl refl)

      go : (t : Bool) → ltb i leader_at ≡ t → is_due d (slot plain_form 6 per_segment k) i ≡ true → field_at d (slot plain_form 6 per_segment k) i ≡ field_at d (slot leader_form 6 per_segment k) i
      go true q e = rw q
      go false q e = absurd (let z = last (omega (arith, ltb-false i leader_at q)) in cc)

  plain_alike : (n : ℕ) → DueAlike (slot_of plain_form n) (slot_of leader_form n)
  unfolding field_at
  plain_alike n =
      slots_alike DueAlike (eqb n 0) _ _ _ _ (λ l e. refl)
      (slots_alike DueAlike (eqb n 1) _ _ _ _ (λ l e. refl)
      (slots_alike DueAlike (eqb n 2) _ _ _ _ (λ l e. refl)
      (slots_alike DueAlike (ltb n first_pavement_record) _ _ _ _ (λ l e. refl)
      (slots_alike DueAlike (ltb n first_segment_record) _ _ _ _ (λ l e. refl)
      (slots_alike DueAlike (ltb n last_record) _ _ _ _ (segments_alike (n - first_segment_record)) (λ l e. refl))))))

-- ---- all districts, in both forms

module _ (d : District) (e : in_range d ≡ true) where
  led_short : length (text_of leader_form d) ≤ longest_printed
  led_short =
      let ok = in_range_lem d e in
      omega (arith, text_fits d ok leader_form (inr refl) (λ n i h l q. ok.values n i h l), longest_led)

  plain_short : length (text_of plain_form d) ≤ longest_printed
  plain_short =
      let ok = in_range_lem d e in
      omega (arith, text_fits d ok plain_form (inl refl) (λ n i h l q. rw (plain_alike d i n l q) (ok.values n i h (rw (places_same plain_form n) at l))), longest_plain)

pub printed_short : (form : ℕ) → Form form → (d : District) → in_range d ≡ true → length (text_of form d) ≤ longest_printed
printed_short form f d e = form_all (λ (g : ℕ). length (text_of g d) ≤ longest_printed) (plain_short d e) (led_short d e) form f

-- ---- one is as long: the one whose numbers are all at their longest

tops : ℕ → Slot → ℕ → List ℕ
tops zero s n = []
tops (suc m) s n = top (field_at widest s n) ∷ tops m s (n + 1)

tops_from : ℕ → ℕ → District
tops_from zero n = []
tops_from (suc m) n = tops (slot_of leader_form n).places (slot_of leader_form n) 0 ++ tops_from m (n + 1)

full : District
full = tops_from file_records 0

length_tops : (m : ℕ) (s : Slot) (n : ℕ) → length (tops m s n) ≡ m
unfolding tops
length_tops zero s n = refl
length_tops (suc m) s n = omega (arith, length_tops m s (n + 1))

tops_at : (m : ℕ) (s : Slot) (n : ℕ) (rest : List ℕ) (i : ℕ) → i < m → get_or (tops m s n ++ rest) i 0 ≡ top (field_at widest s (n + i))
unfolding tops
tops_at zero s n rest i h = absurd (omega arith)
tops_at (suc m) s n rest zero h = rw add-zero refl
tops_at (suc m) s n rest (suc i) h = let e : n + 1 + i ≡ n + suc i = omega arith in rw e at (tops_at m s (n + 1) rest i (omega arith))

-- what stands from a record on
full_from : (n m : ℕ) → n + m ≡ file_records → drop (start_of n) full ≡ tops_from m n
unfolding full tops_from
full_from zero m h = let e : m ≡ file_records = omega arith in rw e refl
full_from (suc n) m h =
    let s = slot_of leader_form n in
    sym (drop-drop s.places (start_of n) full) ∙ ap (drop s.places) (full_from n (suc m) (omega arith)) ∙ drop_at (tops s.places s 0) (tops_from m (n + 1)) s.places (length_tops s.places s 0) ∙ ap (tops_from m) (add-one n)

full_at : (n i : ℕ) → n < file_records → i < (slot_of leader_form n).places → value_at full (start_of n + i) ≡ top (field_at widest (slot_of leader_form n) i)
unfolding tops_from
full_at n i h l =
    let s = slot_of leader_form n in
    let m = file_records - (n + 1) in
    sym (get_or-drop (start_of n) full i 0) ∙ ap (λ (vs : List ℕ). get_or vs i 0) (full_from n (suc m) (omega arith)) ∙ tops_at s.places s 0 (tops_from m (n + 1)) i l ∙ ap (λ (k : ℕ). top (field_at widest s k)) (zero-add i)

-- it has each count and each greatest rating at its greatest, and so the widest fields
full_counts : (k : ℕ) → k < count_places → get_or full k 0 ≡ get_or widest k 0
unfolding top field_at widest
full_counts k h = rw zero-add at (full_at 0 k (omega arith) h) ∙ go k h
  where
    go : (k : ℕ) → k < count_places → top (field_at widest (slot_of leader_form 0) k) ≡ get_or widest k 0
    go zero l = refl
    go (suc zero) l = refl
    go (suc (suc zero)) l = refl
    go (suc (suc (suc zero))) l = refl
    go (suc (suc (suc (suc zero)))) l = refl
    go (suc (suc (suc (suc (suc zero))))) l = refl
    go (suc (suc (suc (suc (suc (suc k)))))) l = absurd (omega arith)

widest_greatest : all most_distresses (λ k. eqb (greatest_of widest k) 50) ≡ true
unfolding all greatest_of widest
widest_greatest = refl

greatest_widest : (k : ℕ) → k < most_distresses → greatest_of widest (k + 1) ≡ 50
greatest_widest k h = eqb-true _ _ (all_at most_distresses _ widest_greatest (k + 1) (omega arith) (omega arith))

greatest_full : (k : ℕ) → k < most_distresses → greatest_of full (k + 1) ≡ 50
unfolding top field_at greatest_of widest
greatest_full k h =
    let e : greatest_place (k + 1) ≡ start_of 2 + k = omega arith in
    rw (e, full_at 2 k (omega arith) h, lt-ltb k most_distresses h) refl

full_field : (s : Slot) (n : ℕ) → field_at full s n ≡ field_at widest s n
full_field s n = field_same widest full full_counts s n (λ q l. greatest_full (n - ratings_at) (omega arith) ∙ sym (greatest_widest (n - ratings_at) (omega arith)))

widest_roomy : (s : Slot) (n : ℕ) → Roomy (field_at widest s n)
unfolding widest
widest_roomy = field_roomy widest refl

length_from : (m n : ℕ) → length (tops_from m n) + start_of n ≡ start_of (n + m)
unfolding tops_from
length_from zero n = rw add-zero (omega arith)
length_from (suc m) n =
    let s = slot_of leader_form n in
    let e : n + 1 + m ≡ n + suc m = omega arith in
    rw (← e) (omega (arith, length-append (tops s.places s 0) (tops_from m (n + 1)), length_tops s.places s 0, length_from m (n + 1), start_next leader_form n))

full_length : length full ≡ district_places
unfolding full
full_length = omega (arith, length_from file_records 0)

full_ok : InRange leader_form full
full_ok = record { places = full_length; values = λ n i h l. rw (full_field (slot_of leader_form n) i, full_at n i h l) (widest_roomy (slot_of leader_form n) i).held }

every_present : all file_records (λ n. present widest (slot_of leader_form (n - 1))) ≡ true
unfolding all widest
every_present = refl

full_present : (n : ℕ) → n < file_records → present widest (slot_of leader_form n) ≡ true
full_present n h = let e : n + 1 - 1 ≡ n = omega arith in rw e at (all_at file_records _ every_present (n + 1) (omega arith) (omega arith))

widest_at : (n i : ℕ) → n < file_records → field_at widest (slot_of leader_form n) i ≡ widest_field (slot_of leader_form n) i
unfolding field_at
widest_at n i h = rw (full_present n h) refl

full_filled : (n i : ℕ) → n < file_records → i < (slot_of leader_form n).places → length (due_text full (slot_of leader_form n) i (start_of n + i)) ≡ room (widest_field (slot_of leader_form n) i)
full_filled n i h l =
    let s = slot_of leader_form n in
    rw (full_field s i, full_at n i h l) (widest_roomy s i).filled ∙ ap room (widest_at n i h)

full_long : length (text_of leader_form full) ≡ longest_printed
full_long = text_by (λ a b. a ≡ b) (λ n. refl) (λ a b m n h k. omega arith) full leader_form each ∙ longest_led
  where
    each : (n : ℕ) → n < file_records → length (record_text (present full (slot_of leader_form n)) full (slot_of leader_form n) (start_of n)) ≡ record_room (slot_of leader_form n)
    each n h =
        let s = slot_of leader_form n in
        rw (present_same widest full full_counts s, full_present n h)
        (record_by (λ a b. a ≡ b) (λ n. refl) (λ a b m n h k. omega arith) full s (start_of n) (λ i l. full_filled n i h l) (counted leader_form (inr refl) n))

pub some_as_long : (d : District) × (in_range d ≡ true) × (length (text_of leader_form d) ≡ longest_printed)
some_as_long = (full, range_in full full_ok, full_long)
