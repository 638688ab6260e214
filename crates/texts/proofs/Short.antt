-- A complaint is short: the word that it shows whole is a number.
use Rattle.std.proofs.Common.{ℕ, zero, suc, ◌+◌, ◌≤◌, ◌≡◌, Bool, true, false, leb, eqb, List, [], ◌∷◌, ◌++◌, length, take, map, min, ℤ, pos, negsuc, Option, None, Some, Err, refl, sym, ap, ◌∙◌, inr, arith}
use mathlib.Core.Path.{subst}
use borrow.Author.Tests.{leb-true, leb-false}
use lib.ListN.{length-append, length-map, length-take}
use native.Mathlib.Nat.{min-le_left}
use Rattle.base.proofs.Choice.{pick_all}
use Rattle.base.proofs.Text.{decimal_few}
use Rattle.base.specs.Text.{text, decimal, most_digits}
use Rattle.base.specs.Choice.{pick}
use Rattle.base.specs.Same.{same}
use Rattle.rules.specs.District.{District}
use Rattle.rules.specs.Format.{present, field_at, slot_of, file_records, Slot}
use Rattle.texts.specs.Words.{Word, Words, Line, lines_of}
use Rattle.texts.specs.Numbers.{longest_number, minus_sign, written, with_sign, has_minus, behind_minus, value_of, least, most, in_field, held_as}
use Rattle.texts.specs.Records.{word_of, is_due, due, due_before}
use Rattle.texts.specs.Complaints.{longest_text, Fault, OtherWord, NumberMissing, NoNumber, OutOfRange, NumberTooMany, BehindEnd, EndMissing, Complaint, TooLong, InLine, quoted, quoted_due, not_in, fault_text, complaint_text, plain, longest_quoted}
use Rattle.texts.specs.Reading.{Reading, wrong, found, read_value, read_number, read_numbers, read_line, in_line, read_record, read_records, form_in, formed, read_lines, read_within, read_text}
use Rattle.texts.proofs.Digits.{no_size}
use Rattle.texts.proofs.Lines.{number_found, number_wrong}
use Rattle.texts.proofs.Taken.{record_found, record_wrong}

-- the digits, and a '-'
abbrev pub longest_word : ℕ
longest_word = longest_number + 1

abbrev pub Short : Fault → Type 0
Short (OutOfRange w lo hi) = length w ≤ longest_word
Short f = Unit {0}

abbrev pub ShortIn : Complaint → Type 0
ShortIn TooLong = Unit {0}
ShortIn (InLine n f) = Short f

-- ---- a word that is a number

minus_one : (w : Word) → length w ≤ length (behind_minus w) + 1
unfolding behind_minus
minus_one [] = omega arith
minus_one (b ∷ bs) = go (eqb b minus_sign)
  where
    go : (t : Bool) → length (b ∷ bs) ≤ length (pick t bs (b ∷ bs)) + 1
    go true = omega arith
    go false = omega arith

number_short : (w : Word) (v : ℤ) → value_of w ≡ Some v → length w ≤ longest_word
unfolding value_of
number_short w v e = go (leb (length (behind_minus w)) longest_number) refl
  where
    go : (t : Bool) → leb (length (behind_minus w)) longest_number ≡ t → length w ≤ longest_word
    go true q = omega (arith, minus_one w, leb-true (length (behind_minus w)) longest_number q)
    go false q =
        let none = no_size (behind_minus w) (inr (leb-false (length (behind_minus w)) longest_number q)) in
        absurd (cc (sym e ∙ ap (with_sign (has_minus w)) none))

-- ---- what is wrong with a line

module _ (u : District) (s : Slot) where
  value_short : (n : ℕ) (w : Word) (v : Option ℤ) (ws : Words) (f : Fault) → value_of w ≡ v → read_value (field_at u s n) w v ws ≡ wrong f → Short f
  value_short n w None ws f q e = let h : NoNumber w ≡ f = cc in subst Short h tt
  value_short n w (Some v) ws f q e = go (in_field (field_at u s n) v) e
    where
      go : (t : Bool) → pick t (found (held_as v) ws) (wrong (OutOfRange w (least (field_at u s n)) (most (field_at u s n)))) ≡ wrong f → Short f
      go true k = absurd cc
      go false k = let h : OutOfRange w (least (field_at u s n)) (most (field_at u s n)) ≡ f = cc in subst Short h (number_short w v q)

  one_short : (b : Bool) (n : ℕ) (ws : Words) (f : Fault) → read_number b u s n ws ≡ wrong f → Short f
  one_short false n ws f e = absurd cc
  one_short true n [] f e = let h : NumberMissing (due_before u s n) (due u s) ≡ f = cc in subst Short h tt
  one_short true n (w ∷ ws) f e = value_short n w (value_of w) ws f refl e

  numbers_short : (m n : ℕ) (vs : List ℕ) (ws : Words) (f : Fault) → read_numbers m u s n vs ws ≡ wrong f → Short f
  unfolding read_numbers
  numbers_short zero n vs [] f e = absurd cc
  numbers_short zero n vs (w ∷ ws) f e = let h : NumberTooMany (due u s) ≡ f = cc in subst Short h tt
  numbers_short (suc m) n vs ws f e = go (read_number (is_due u s n) u s n ws) refl (λ x rs. numbers_short m (n + 1) (vs ++ x ∷ []) rs f)
    where
      go : (o : Reading Fault ℕ Words) → read_number (is_due u s n) u s n ws ≡ o
          → ((x : ℕ) (rs : Words) → read_numbers m u s (n + 1) (vs ++ x ∷ []) rs ≡ wrong f → Short f) → Short f
      go (wrong g) t ih = let h : g ≡ f = cc (sym (number_wrong m u s n vs ws g t) ∙ e) in subst Short h (one_short (is_due u s n) n ws g t)
      go (found x rs) t ih = ih x rs (sym (number_found m u s n vs ws x rs t) ∙ e)

  line_short : (ws : Words) (f : Fault) → read_line u s ws ≡ wrong f → Short f
  line_short [] f e = let h : OtherWord [] s.kind ≡ f = cc in subst Short h tt
  line_short (w ∷ ws) f e = go (same w (word_of s.kind)) e
    where
      go : (t : Bool) → pick t (read_numbers s.places u s 0 [] ws) (wrong (OtherWord w s.kind)) ≡ wrong f → Short f
      go true k = numbers_short s.places 0 [] ws f k
      go false k = let h : OtherWord w s.kind ≡ f = cc in subst Short h tt

  -- ---- what is wrong with a text

  in_line_short : (n : ℕ) (ws : Words) (ls : List Line) (c : Complaint) (o : Reading Fault (List ℕ) Words) → read_line u s ws ≡ o → in_line n o ls ≡ wrong c → ShortIn c
  in_line_short n ws ls c (wrong f) t e = let h : InLine n f ≡ c = cc in subst ShortIn h (line_short ws f t)
  in_line_short n ws ls c (found vs rs) t e = absurd cc

  record_short : (b : Bool) (last : ℕ) (ls : List Line) (c : Complaint) → read_record b last u s ls ≡ wrong c → ShortIn c
  record_short false last ls c e = absurd cc
  record_short true last [] c e = let h : InLine last (EndMissing s.kind) ≡ c = cc in subst ShortIn h tt
  record_short true last (l ∷ ls) c e = in_line_short l.number l.words ls c (read_line u s l.words) refl e

module _ (form last : ℕ) (c : Complaint) where
  records_short : (m n : ℕ) (u : District) (ls : List Line) → read_records form last m n u ls ≡ wrong c → ShortIn c
  unfolding read_records
  records_short zero n u [] e = absurd cc
  records_short zero n u (l ∷ ls) e = let h : InLine l.number BehindEnd ≡ c = cc in subst ShortIn h tt
  records_short (suc m) n u ls e =
      go (read_record (present u (slot_of form n)) last u (slot_of form n) ls) refl (λ vs rs. records_short m (n + 1) (u ++ vs) rs)
    where
      go : (o : Reading Complaint (List ℕ) (List Line)) → read_record (present u (slot_of form n)) last u (slot_of form n) ls ≡ o
          → ((vs : List ℕ) (rs : List Line) → read_records form last m (n + 1) (u ++ vs) rs ≡ wrong c → ShortIn c) → ShortIn c
      go (wrong g) t ih = let h : g ≡ c = cc (sym (record_wrong form last m n u ls g t) ∙ e) in subst ShortIn h (record_short u (slot_of form n) (present u (slot_of form n)) last ls g t)
      go (found vs rs) t ih = ih vs rs (sym (record_found form last m n u ls vs rs t) ∙ e)

  formed_short : (ls : List Line) (o : Reading Complaint District (List Line)) → read_records form last file_records 0 [] ls ≡ o → formed form o ≡ Err c → ShortIn c
  formed_short ls (wrong g) t e = let h : g ≡ c = cc in records_short file_records 0 [] ls (t ∙ ap wrong h)
  formed_short ls (found d rs) t e = absurd cc

word_short : (bs : List ℕ) (c : Complaint) → read_text bs ≡ Err c → ShortIn c
unfolding read_text read_lines
word_short bs c e = go (leb (length bs) longest_text) e
  where
    go : (t : Bool) → read_within t bs ≡ Err c → ShortIn c
    go false k = let h : TooLong ≡ c = cc in subst ShortIn h tt
    go true k = formed_short (form_in (lines_of bs)) _ c (lines_of bs) _ refl k

-- ---- what is printed of it

quoted_short : (w : Word) → length (quoted w) ≤ 24
unfolding quoted text
quoted_short w = go (leb (length w) longest_quoted) (length-map (take longest_quoted w) plain) (length-take longest_quoted w)
  where
    go : (t : Bool) → length (map plain (take longest_quoted w)) ≡ length (take longest_quoted w) → length (take longest_quoted w) ≡ min longest_quoted (length w)
        → length (39 ∷ (map plain (take longest_quoted w) ++ (pick t [] (text "..") ++ text "'"))) ≤ 24
    go true a b = omega (arith, a, b, min-le_left longest_quoted (length w), length-append (map plain (take longest_quoted w)) (text "'"))
    go false a b = omega (arith, a, b, min-le_left longest_quoted (length w), length-append (map plain (take longest_quoted w)) (text "..'"))

record Twelve (l : List ℕ) : Type 0 where
  few : length l ≤ 12

either : (t : Bool) (a b : List ℕ) → length a ≤ 12 → Twelve b → Twelve (pick t a b)
either t a b h k = pick_all Twelve t a b (record { few = h }) k

twelve : (kind : ℕ) → Twelve (word_of kind)
unfolding word_of text
twelve kind =
    either _ (text "district") _ (omega arith)
    (either _ (text "led-district") _ (omega arith)
    (either _ (text "limits") _ (omega arith)
    (either _ (text "greatest") _ (omega arith)
    (either _ (text "strategy") _ (omega arith)
    (either _ (text "pavement") _ (omega arith)
    (either _ (text "segment") (text "end") (omega arith) (record { few = omega arith })))))))

pub kind_short : (kind : ℕ) → length (word_of kind) ≤ 12
kind_short kind = (twelve kind).few

due_short : (kind : ℕ) → length (quoted_due kind) ≤ 14
unfolding quoted_due text
due_short kind = omega (arith, kind_short kind, length-append (word_of kind) (text "'"))

pub written_short : (v : ℤ) → length (written v) ≤ most_digits + 1
unfolding written
written_short (pos n) = omega (arith, decimal_few n)
written_short (negsuc n) = omega (arith, decimal_few (suc n))

pub not_in_short : (lo hi : ℤ) → length (not_in lo hi) ≤ 54
unfolding not_in text
not_in_short lo hi = omega (arith, written_short lo, written_short hi, length-append (written lo) (text " to " ++ written hi))

fault_short : (f : Fault) → Short f → length (fault_text f) ≤ 100
unfolding fault_text text
fault_short (OtherWord w kind) h =
    omega (arith, quoted_short w, due_short kind, length-append (quoted w) (text " is not the word due (" ++ (quoted_due kind ++ text ")")), length-append (quoted_due kind) (text ")"))
fault_short (NumberMissing stand due) h =
    omega (arith, decimal_few stand, decimal_few due, length-append (decimal stand) (text " of " ++ (decimal due ++ text ")")), length-append (decimal due) (text ")"))
fault_short (NoNumber w) h = omega (arith, quoted_short w, length-append (quoted w) (text " is not a number"))
fault_short (OutOfRange w lo hi) h = omega (arith, h, not_in_short lo hi, length-append w (not_in lo hi))
fault_short (NumberTooMany due) h = omega (arith, decimal_few due, length-append (decimal due) (text " are due)"))
fault_short BehindEnd h = omega arith
fault_short (EndMissing kind) h = omega (arith, due_short kind, length-append (quoted_due kind) (text " is due)"))

-- no complaint has more bytes
abbrev pub longest_complaint : ℕ
longest_complaint = 128

told_short : (c : Complaint) → ShortIn c → length (complaint_text c) ≤ longest_complaint
unfolding complaint_text text
told_short TooLong h = omega (arith, decimal_few longest_text, length-append (decimal longest_text) (text " bytes\n"))
told_short (InLine n f) h =
    omega (arith, decimal_few n, fault_short f h, length-append (decimal n) (text ": " ++ (fault_text f ++ text "\n")), length-append (fault_text f) (text "\n"))

pub complaint_short : (bs : List ℕ) (c : Complaint) → read_text bs ≡ Err c → length (complaint_text c) ≤ longest_complaint
complaint_short bs c e = told_short c (word_short bs c e)
