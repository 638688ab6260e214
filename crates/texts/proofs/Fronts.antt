-- What pack does not read makes no difference.
use Rattle.std.proofs.Common.{ℕ, ◌<◌, ◌≡◌, Bool, true, false, leb, List, Err, length, take, refl, sym, ap, ◌∙◌, length-take-le, arith}
use borrow.Author.Tests.{lt-leb, leb-true, leb-false}
use lib.Seq.{take_all}
use Rattle.texts.specs.Complaints.{longest_text, TooLong, complaint_text}
use Rattle.texts.specs.Programs.{most_text_read, packed}
use Rattle.texts.specs.Reading.{read_text}

pub too_long : (bs : List ℕ) → longest_text < length bs → read_text bs ≡ Err TooLong
unfolding read_text
too_long bs h = rw (lt-leb (length bs) longest_text h) refl

long_text : (bs : List ℕ) → longest_text < length bs → packed bs ≡ complaint_text TooLong
unfolding packed
long_text bs h = rw (too_long bs h) refl

pub text_front : (bs : List ℕ) → packed (take most_text_read bs) ≡ packed bs
text_front bs = go (leb (length bs) longest_text) refl
  where
    go : (t : Bool) → leb (length bs) longest_text ≡ t → packed (take most_text_read bs) ≡ packed bs
    go true e = let h = leb-true (length bs) longest_text e in ap packed (take_all most_text_read bs (omega arith))
    go false e =
        let h : longest_text < length bs = leb-false (length bs) longest_text e in
        let front = length-take-le most_text_read bs (omega arith) in
        long_text (take most_text_read bs) (omega arith) ∙ sym (long_text bs h)
