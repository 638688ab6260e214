-- A district's text is read as the district, in the form in which it is printed.
use Rattle.std.proofs.Common.{ℕ, zero, suc, ◌+◌, ◌^◌, ◌≤◌, ◌<◌, ◌≡◌, Bool, true, false, ltb, List, [], ◌∷◌, length, get_or, take, drop, replicate, Ok, nat_abs, ℤ, pos, ◌-ℤ◌, refl, sym, ap, ◌∙◌, add-zero, zero-add, le-leb, eq-eqb, ltb-false, length-drop, length-take-le, get_or-drop, get_or-take, take-add, ext_get_or, arith}
use native.Mathlib.Nat.{pow-le-pow_right}
use Rattle.std.proofs.lemmas.Int.{ints}
use Rattle.std.proofs.lemmas.List.{get_or-replicate, length-replicate}
use Rattle.base.proofs.Choice.{pick_all}
use Rattle.base.specs.Bytes.{signed}
use Rattle.base.specs.Choice.{pick}
use Rattle.base.specs.Same.{same}
use Rattle.base.specs.Text.{text}
use Rattle.rules.specs.District.{District, value_at, pavements_of}
use Rattle.rules.specs.File.{in_range}
use Rattle.rules.specs.Format.{present, field_at, inside, slot_of, file_records, Slot}
use Rattle.rules.specs.declared.Field.{Field}
use Rattle.grammar.specs.Places.{Form, Suits, start_of, Ready}
use Rattle.grammar.proofs.Forms.{form_range, range_form, form_fits}
use Rattle.grammar.proofs.InRange.{InRange, in_range_lem}
use Rattle.grammar.proofs.InRanges.{pavements}
use Rattle.grammar.proofs.Slots.{form_all, start_next, ready, width_small}
use Rattle.file.proofs.Steps.{value_more, all_places}
use Rattle.texts.specs.Words.{Word, Words, Line, lines_in}
use Rattle.texts.specs.Numbers.{written, shown_in}
use Rattle.texts.specs.Records.{word_of, is_due}
use Rattle.texts.specs.Complaints.{longest_text}
use Rattle.texts.specs.Printing.{text_of}
use Rattle.texts.specs.Reading.{found, read_number, read_numbers, read_line, read_record, read_records, form_in, read_lines, read_text}
use Rattle.texts.proofs.Lines.{number_take, number_found}
use Rattle.texts.proofs.Longest.{printed_short}
use Rattle.texts.proofs.PrintedLines.{number_words, record_words, printed_lines, lines_printed}
use Rattle.texts.proofs.Shown.{field_shows}
use Rattle.texts.proofs.Taken.{record_found}
use Rattle.texts.proofs.Written.{written_read}

-- a number of four bytes
shown_small : (f : Field) (x : ℕ) → x < 256 ^ 4 → nat_abs (shown_in f x) < 2 ^ 64
shown_small f x h =
    let a : nat_abs (pos x -ℤ pos 256) ≤ x + 256 = grind (arith, ints) in
    let small = λ (v : ℤ). nat_abs v < 2 ^ 64 in
    pick_all small (ltb f.hi f.lo) (signed x) (pos x) (pick_all small (ltb x 128) (pos x) (pos x -ℤ pos 256) (omega arith) (omega arith)) (omega arith)

same_self : (w : Word) → same w w ≡ true
unfolding same
same_self [] = refl
same_self (b ∷ bs) = rw (eq-eqb b b refl) (same_self bs)

-- ---- a record, whose numbers stand from a place on, with what stands before it

module _ (d : District) (some : 1 ≤ pavements_of d) (s : Slot) (place : ℕ) (r : Ready s place) (room : place + s.places ≤ length d) (good : (i : ℕ) → i < s.places → inside (field_at d s i) (value_at d (place + i)) ≡ true) (fits : (i : ℕ) → i < s.places → value_at d (place + i) < 256 ^ (field_at d s i).width) where
  -- a number that takes no word is 0
  undue : (n : ℕ) → n < s.places → is_due d s n ≡ false → value_at d (place + n) ≡ 0
  undue n h e = let w : (field_at d s n).width ≡ 0 = omega (arith, ltb-false 0 (field_at d s n).width e) in let l = rw w at (fits n h) in omega arith

  module _ (n : ℕ) (h : n < s.places) (ws : Words) where
    abbrev f : Field
    f = field_at d s n

    abbrev x : ℕ
    x = value_at d (place + n)

    number_back : read_number (is_due (take place d) s n) (take place d) s n (pick (is_due d s n) (written (shown_in f x) ∷ ws) ws) ≡ found x ws
    number_back = number_take r d n _ h ∙ go (is_due d s n) refl
      where
        go : (t : Bool) → is_due d s n ≡ t → read_number t d s n (pick t (written (shown_in f x) ∷ ws) ws) ≡ found x ws
        go true e =
            let k = (field_shows d (le-leb 1 (pavements_of d) some) s n).shown x (good n h) in
            let v = written_read (shown_in f x) (shown_small f x (omega (arith, fits n h, pow-le-pow_right {n = 256} (omega arith) (width_small d s n)))) in
            rw (v, k.0, k.1) refl
        go false e = ap (λ (y : ℕ). found y ws) (sym (undue n h e))

  numbers_back : (m n : ℕ) → n + m ≤ s.places → read_numbers m (take place d) s n (take n (drop place d)) (number_words m d s n (place + n)) ≡ found (take (n + m) (drop place d)) []
  unfolding read_numbers number_words
  numbers_back zero n h = rw add-zero
  numbers_back (suc m) n h =
      let ws = number_words m d s (n + 1) (place + n + 1) in
      let e : place + n + 1 ≡ place + (n + 1) = omega arith in
      let q : n + 1 + m ≡ n + suc m = omega arith in
      let ih = rw q at (numbers_back m (n + 1) (omega arith)) in
      number_found m (take place d) s n (take n (drop place d)) _ (value_at d (place + n)) ws (number_back n (omega arith) ws) ∙ rw (value_more d place n (omega arith), e) ih

  line_back : read_line (take place d) s (record_words d s place) ≡ found (take s.places (drop place d)) []
  line_back = rw (same_self (word_of s.kind)) (rw (add-zero, zero-add) at (numbers_back s.places 0 (omega arith)))

  -- of a record that the district does not have all numbers are 0
  zeros : present d s ≡ false → replicate s.places 0 ≡ take s.places (drop place d)
  unfolding field_at
  zeros t =
      let l : s.places ≤ length (drop place d) = simp length-drop (omega arith) in
      ext_get_or 0 (replicate s.places 0) (take s.places (drop place d)) (length-replicate s.places 0 ∙ sym (length-take-le s.places (drop place d) l))
      (λ i h. each i (rw length-replicate at h))
    where
      each : (i : ℕ) → i < s.places → get_or (replicate s.places 0) i 0 ≡ get_or (take s.places (drop place d)) i 0
      each i h = get_or-replicate s.places i 0 0 h ∙ sym (undue i h (rw t refl)) ∙ sym (get_or-drop place d i 0) ∙ sym (get_or-take s.places (drop place d) i 0 h)

  module _ (last k : ℕ) (ls : List Line) where
    there_back : present d s ≡ true → read_record (present (take place d) s) last (take place d) s (record { number = k; words = record_words d s place } ∷ ls) ≡ found (take s.places (drop place d)) ls
    there_back t = rw (r.here d ∙ t, line_back)

    none_back : present d s ≡ false → read_record (present (take place d) s) last (take place d) s ls ≡ found (take s.places (drop place d)) ls
    none_back t = rw (r.here d ∙ t) (ap (λ vs. found vs ls) (zeros t))

-- ---- the lines

module _ (form : ℕ) (f : Form form) (d : District) (ok : InRange form d) (last : ℕ) where
  some_pavement : 1 ≤ pavements_of d
  some_pavement = (pavements d (in_range_lem d (range_form form f d ok).0)).0

  -- one record in front
  module _ (m n : ℕ) (h : n < file_records) (after : (k : ℕ) → read_records form last m (n + 1) (take (start_of (n + 1)) d) (printed_lines form m d (n + 1) (start_of (n + 1)) k) ≡ found d []) where
    abbrev p : ℕ
    p = start_of n

    abbrev s : Slot
    s = slot_of form n

    abbrev rest : ℕ → List Line
    rest k = printed_lines form m d (n + 1) (p + s.places) k

    record_read : (ls : List Line) (k : ℕ) → read_record (present (take p d) s) last (take p d) s ls ≡ found (take s.places (drop p d)) (rest k) → read_records form last (suc m) n (take p d) ls ≡ found d []
    record_read ls k t =
        record_found form last m n (take p d) ls (take s.places (drop p d)) (rest k) t
        ∙ ap (λ l. read_records form last m (n + 1) l (rest k)) (sym (take-add p s.places d))
        ∙ (rw (start_next form n) at (after k))

    next_read : (k : ℕ) → read_records form last (suc m) n (take p d) (printed_lines form (suc m) d n p k) ≡ found d []
    unfolding printed_lines
    next_read k = go (present d s) refl
      where
        r : Ready s p
        r = ready form f n h

        room : p + s.places ≤ length d
        room = omega (arith, r.room, ok.places)

        go : (t : Bool) → present d s ≡ t → read_records form last (suc m) n (take p d) (pick t (record { number = k; words = record_words d s p } ∷ rest (k + 1)) (rest k)) ≡ found d []
        go true t = record_read _ (k + 1) (there_back d some_pavement s p r room (λ i. ok.values n i h) (λ i. form_fits form f d ok n i h) last k (rest (k + 1)) t)
        go false t = record_read _ k (none_back d some_pavement s p r room (λ i. ok.values n i h) (λ i. form_fits form f d ok n i h) last k (rest k) t)

  -- for any number of the line behind the last
  lines_read : (m n k : ℕ) → n + m ≡ file_records → read_records form last m n (take (start_of n) d) (printed_lines form m d n (start_of n) k) ≡ found d []
  unfolding read_records printed_lines
  lines_read zero n k e = ap (λ (l : List ℕ). found l []) (all_places d ok.places n (omega arith))
  lines_read (suc m) n k e = next_read m n (omega arith) (λ j. lines_read m (n + 1) j (omega arith)) k

form_printed : (form : ℕ) → Form form → (d : District) → form_in (printed_lines form file_records d 0 0 1) ≡ form
unfolding form_in printed_lines word_of same text
form_printed form f d = form_all (λ (g : ℕ). form_in (printed_lines g file_records d 0 0 1) ≡ g) refl refl form f

-- ---- the text

pub printed_read : (form : ℕ) → Form form → (d : District) → in_range d ≡ true → Suits form d → read_text (text_of form d) ≡ Ok (record { form = form; district = d })
unfolding read_text read_lines
printed_read form f d e s =
    let bs = text_of form d in
    rw (le-leb (length bs) longest_text (omega (arith, printed_short form f d e)), lines_printed form d, form_printed form f d, lines_read form f d (form_range form f d e s) (lines_in bs + 1) file_records 0 1 refl) refl
