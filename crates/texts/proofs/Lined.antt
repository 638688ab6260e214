-- The numbers of a record, and the records of a text, printed one after another.
use Rattle.std.proofs.Common.{ℕ, suc, ◌+◌, ◌-◌, ◌≤◌, ◌<◌, ◌≡◌, true, false, List, ◌++◌, append-nil, length, length-append, refl, arith}
use Rattle.base.specs.Text.{text, decimal}
use Rattle.base.proofs.Buffers.{Written}
use Rattle.base.proofs.Text.{front_fits}
use Rattle.rules.specs.District.{District}
use Rattle.rules.specs.Format.{Slot, slot_of, present, file_records}
use Rattle.texts.specs.Records.{word_of, is_numbered, name_of}
use Rattle.texts.specs.Printing.{numbers_text, comment_of, record_text, records_text}
use Rattle.texts.specs.Pieces.{due_text}

-- a number is to come
numbers_next : (d : District) (s : Slot) (m i place : ℕ) → i < m → numbers_text (m - i) d s i (place + i) ≡ due_text d s i (place + i) ++ numbers_text (m - (i + 1)) d s (i + 1) (place + (i + 1))
unfolding numbers_text
numbers_next d s m i place h =
    let more : m - i ≡ suc (m - (i + 1)) = omega arith in
    let next : place + (i + 1) ≡ place + i + 1 = omega arith in
    rw (more, next) refl

pub number_next :
    {old whole out : List ℕ} {at : ℕ} (d : District) (s : Slot) (m i place : ℕ) → i < m → Written old whole (numbers_text (m - i) d s i (place + i)) at out
    → Written old whole (due_text d s i (place + i) ++ numbers_text (m - (i + 1)) d s (i + 1) (place + (i + 1))) at out
number_next d s m i place h w = rw (numbers_next d s m i place h) at w

-- three pieces are within what the whole is within
pub sizes : (a b c : List ℕ) {n : ℕ} → length (a ++ (b ++ c)) ≤ n → length a + length b + length c ≤ n
sizes a b c h = omega (arith, length-append a (b ++ c), length-append b c)

-- ---- a record's name

pub word_fits : (s : Slot) {word : List ℕ} {n : ℕ} → word ≡ word_of s.kind → length (name_of s) ≤ n → length word ≤ n
unfolding name_of
word_fits s w h = rw w (front_fits (word_of s.kind) _ h)

pub numbered : (s : Slot) {word : List ℕ} → is_numbered s ≡ true → word ≡ word_of s.kind → name_of s ≡ word ++ (text " " ++ decimal (s.nth + 1))
unfolding name_of
numbered s e w = rw (w, e) refl

pub unnumbered : (s : Slot) {word : List ℕ} → is_numbered s ≡ false → word ≡ word_of s.kind → name_of s ≡ word
unfolding name_of
unnumbered s e w = rw (w, e) (append-nil (word_of s.kind))

-- ---- the records

pub recorded :
    (d : District) (s : Slot) (place : ℕ) {word : List ℕ} → present d s ≡ true → word ≡ word_of s.kind
    → record_text (present d s) d s place ≡ word ++ (numbers_text s.places d s 0 place ++ (comment_of s ++ text "\n"))
recorded d s place here w = rw (w, here) refl

-- a record is to come, whose numbers stand where those before end
records_next :
    (form : ℕ) (d : District) (n place : ℕ) → n < file_records → (s : Slot) → s ≡ slot_of form n
    → records_text form (file_records - n) d n place ≡ record_text (present d s) d s place ++ records_text form (file_records - (n + 1)) d (n + 1) (place + s.places)
unfolding records_text
records_next form d n place h s e =
    let more : file_records - n ≡ suc (file_records - (n + 1)) = omega arith in
    rw (more, e) refl

pub record_next :
    {old whole out : List ℕ} {at : ℕ} (form : ℕ) (d : District) (n place : ℕ) → n < file_records → (s : Slot) → s ≡ slot_of form n
    → Written old whole (records_text form (file_records - n) d n place) at out
    → Written old whole (record_text (present d s) d s place ++ records_text form (file_records - (n + 1)) d (n + 1) (place + s.places)) at out
record_next form d n place h s e w = rw (records_next form d n place h s e) at w
