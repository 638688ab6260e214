-- What the lines and words of a printed text are.
use Rattle.std.proofs.Common.{ℕ, zero, suc, ◌+◌, ◌≤◌, ◌≡◌, Bool, true, false, eqb, List, [], ◌∷◌, ◌++◌, length, ℤ, refl, ap, ◌∙◌, append_assoc, append-nil, arith}
use Rattle.std.proofs.lemmas.List.Elements.{All-weaker}
use Rattle.base.specs.Choice.{pick}
use Rattle.base.specs.Text.{text, up_to}
use Rattle.base.proofs.Choice.{gt_eqb, pick_all}
use Rattle.rules.specs.District.{District, value_at}
use Rattle.rules.specs.Format.{field_at, present, slot_of, file_records, Slot}
use Rattle.texts.specs.Words.{Word, Words, Line, parts, is_line_feed, comment_mark, is_blank, not_empty, words_in, words_of, lines_from, lines_of}
use Rattle.texts.specs.Numbers.{minus_sign, written, shown_in}
use Rattle.texts.specs.Records.{word_of, is_numbered, name_of, is_due}
use Rattle.texts.specs.Printing.{numbers_text, comment_of, record_text, records_text, text_of}
use Rattle.texts.proofs.Passed.{first_line}
use Rattle.texts.proofs.Unmarked.{Unmarked, part_ends, part_alone, up_past}
use Rattle.texts.proofs.Spelt.{Spelt, word_spelt, written_spelt, spelt_all, numbers_all, Shown, line_shown}

-- ---- what they are

-- the words of m numbers of the record s, from its n-th on, which stand in the district from a place on
unfoldable pub number_words : ℕ → District → Slot → ℕ → ℕ → Words
number_words zero d s n place = []
number_words (suc m) d s n place =
    pick (is_due d s n) (written (shown_in (field_at d s n) (value_at d place)) ∷ number_words m d s (n + 1) (place + 1)) (number_words m d s (n + 1) (place + 1))

abbrev pub record_words : District → Slot → ℕ → Words
record_words d s place = word_of s.kind ∷ number_words s.places d s 0 place

-- the lines of m records of a form, from the n-th on, whose numbers stand in the district from a place on; the first has the number k
unfoldable pub printed_lines : ℕ → ℕ → District → ℕ → ℕ → ℕ → List Line
printed_lines form zero d n place k = []
printed_lines form (suc m) d n place k =
    pick (present d (slot_of form n))
    (record { number = k; words = record_words d (slot_of form n) place } ∷ printed_lines form m d (n + 1) (place + (slot_of form n).places) (k + 1))
    (printed_lines form m d (n + 1) (place + (slot_of form n).places) k)

-- ---- the words of a line

no_blank : (b : ℕ) → minus_sign ≤ b → is_blank b ≡ false
no_blank b h = rw (gt_eqb b 32 (omega arith), gt_eqb b 9 (omega arith), gt_eqb b 13 (omega arith)) refl

whole : {w : Word} → Spelt w → Unmarked is_blank w
whole s = spelt_all (λ b. is_blank b ≡ false) no_blank s

not_dropped : (w : Word) → 1 ≤ length w → (ps : Words) → not_empty (w ∷ ps) ≡ w ∷ not_empty ps
unfolding not_empty
not_dropped [] l ps = absurd (omega arith)
not_dropped (b ∷ bs) l ps = refl

-- a word with a space behind it, and with nothing
word_then : (w : Word) (rest : List ℕ) → Spelt w → words_in (w ++ 32 ∷ rest) ≡ w ∷ words_in rest
unfolding words_in
word_then w rest s = ap not_empty (part_ends is_blank w 32 rest (whole s) refl) ∙ not_dropped w s.some (parts is_blank rest)

word_alone : (w : Word) → Spelt w → words_in w ≡ w ∷ []
unfolding words_in not_empty
word_alone [] s = absurd (omega (arith, s.some))
word_alone (b ∷ bs) s = ap not_empty (part_alone is_blank b bs (whole s))

-- behind a word, it holds no other
abbrev Last : List ℕ → Type 0
Last bs = (w : Word) → Spelt w → words_in (w ++ bs) ≡ w ∷ []

nothing_last : Last []
nothing_last w s = rw append-nil (word_alone w s)

space_last : Last (32 ∷ [])
unfolding words_in parts not_empty
space_last w s = word_then w [] s

comment_last : (s : Slot) → Last (up_to comment_mark (comment_of s))
unfolding comment_of up_to text
comment_last s =
    let read : List ℕ → Type 0 = λ bs. Last (up_to comment_mark bs) in
    pick_all read (eqb s.kind s.form) (text " # segments, strategies, years, distress types, pavement types, resources") _ space_last
    (pick_all read (is_numbered s) (text " # " ++ name_of s) [] space_last nothing_last)

-- a number more, where it is due
number_next : (t : Bool) (w : Word) (v : ℤ) (bs last : List ℕ) (ws : Words) → Spelt w → ((u : Word) → Spelt u → words_in (u ++ (bs ++ last)) ≡ u ∷ ws)
    → words_in (w ++ ((pick t (32 ∷ written v) [] ++ bs) ++ last)) ≡ w ∷ pick t (written v ∷ ws) ws
number_next true w v bs last ws s on =
    word_then w ((written v ++ bs) ++ last) s ∙ ap (λ us. w ∷ us) (ap words_in (append_assoc (written v) bs last) ∙ on (written v) (written_spelt v))
number_next false w v bs last ws s on = on w s

numbers_words : (m : ℕ) (d : District) (s : Slot) (n place : ℕ) (last : List ℕ) → Last last
    → (w : Word) → Spelt w → words_in (w ++ (numbers_text m d s n place ++ last)) ≡ w ∷ number_words m d s n place
unfolding numbers_text number_words text
numbers_words zero d s n place last l w p = l w p
numbers_words (suc m) d s n place last l w p =
    number_next (is_due d s n) w (shown_in (field_at d s n) (value_at d place)) (numbers_text m d s (n + 1) (place + 1)) last (number_words m d s (n + 1) (place + 1)) p
    (numbers_words m d s (n + 1) (place + 1) last l)

-- ---- a record's line

module _ (d : District) (s : Slot) (place : ℕ) where
  abbrev line_text : List ℕ
  line_text = word_of s.kind ++ (numbers_text s.places d s 0 place ++ comment_of s)

  line_words : words_of line_text ≡ record_words d s place
  unfolding words_of
  line_words =
      let numbers : List ℕ = numbers_text s.places d s 0 place in
      let other : (b : ℕ) → minus_sign ≤ b → eqb b comment_mark ≡ false = λ b h. gt_eqb b comment_mark (omega arith) in
      ap words_in
      (up_past comment_mark (word_of s.kind) (numbers ++ comment_of s) (spelt_all (λ b. eqb b comment_mark ≡ false) other (word_spelt s.kind))
      ∙ ap (λ (l : List ℕ). word_of s.kind ++ l) (up_past comment_mark numbers (comment_of s) (numbers_all (λ b. eqb b comment_mark ≡ false) other refl s.places d s 0 place)))
      ∙ numbers_words s.places d s 0 place (up_to comment_mark (comment_of s)) (comment_last s) (word_of s.kind) (word_spelt s.kind)

  line_parted : (rest : List ℕ) → parts is_line_feed (record_text true d s place ++ rest) ≡ line_text ∷ parts is_line_feed rest
  unfolding text
  line_parted rest =
      let grouped : record_text true d s place ++ rest ≡ line_text ++ 10 ∷ rest = simp append_assoc in
      ap (parts is_line_feed) grouped
      ∙ part_ends is_line_feed line_text 10 rest (All-weaker Shown (λ b. is_line_feed b ≡ false) (λ b h. gt_eqb b 10 (omega arith)) line_text (line_shown d s place)) refl

-- ---- the lines of a text

-- a line more, where the record is present
line_next : (t : Bool) (d : District) (s : Slot) (place k : ℕ) (rest : List ℕ) (ls : ℕ → List Line) → ((i : ℕ) → lines_from i (parts is_line_feed rest) ≡ ls i)
    → lines_from k (parts is_line_feed (record_text t d s place ++ rest)) ≡ pick t (record { number = k; words = record_words d s place } ∷ ls (k + 1)) (ls k)
line_next true d s place k rest ls on =
    first_line k (record_text true d s place ++ rest) (line_text d s place) rest (line_parted d s place rest) ∙ (rw (line_words d s place, on (k + 1)) refl)
line_next false d s place k rest ls on = on k

pub text_lines : (form : ℕ) (m : ℕ) (d : District) (n place k : ℕ) → lines_from k (parts is_line_feed (records_text form m d n place)) ≡ printed_lines form m d n place k
unfolding records_text printed_lines parts lines_from
text_lines form zero d n place k = refl
text_lines form (suc m) d n place k =
    let s = slot_of form n in
    line_next (present d s) d s place k (records_text form m d (n + 1) (place + s.places)) (printed_lines form m d (n + 1) (place + s.places)) (text_lines form m d (n + 1) (place + s.places))

pub lines_printed : (form : ℕ) (d : District) → lines_of (text_of form d) ≡ printed_lines form file_records d 0 0 1
unfolding lines_of text_of
lines_printed form d = text_lines form file_records d 0 0 1
