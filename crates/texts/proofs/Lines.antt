-- A line's numbers one after another.
use Rattle.std.proofs.Common.{Bool, true, false, ltb, ℕ, zero, suc, ◌+◌, ◌≤◌, ◌<◌, ◌≡◌, List, [], ◌∷◌, ◌++◌, take, refl, sym, ap, ◌∙◌, arith}
use Rattle.grammar.specs.Places.{Ready}
use Rattle.rules.specs.District.{District}
use Rattle.rules.specs.Format.{field_at, Slot}
use Rattle.rules.specs.declared.Field.{Field}
use Rattle.texts.specs.Words.{Word, Words}
use Rattle.texts.specs.Records.{is_due, due_in, due, due_before}
use Rattle.texts.specs.Complaints.{Fault, NumberTooMany}
use Rattle.texts.specs.Reading.{Reading, wrong, found, read_number, read_numbers}

-- of the district a number's reading takes the field and how many are due
alike : (b : Bool) (d e : District) (s : Slot) (n : ℕ) (ws : Words) → field_at d s n ≡ field_at e s n → due_before d s n ≡ due_before e s n → due d s ≡ due e s → read_number b d s n ws ≡ read_number b e s n ws
alike false d e s n ws f b a = refl
alike true d e s n [] f b a = rw (b, a) refl
alike true d e s n (w ∷ ws) f b a = rw f refl

-- what stands before the record decides how many of its numbers are due
module _ {s : Slot} {place : ℕ} (r : Ready s place) (d : District) where
  pub due_take : (m n : ℕ) → n + m ≤ s.places → due_in m (take place d) s n ≡ due_in m d s n
  unfolding due_in
  due_take zero n h = refl
  due_take (suc m) n h = rw (r.field d n (omega arith), due_take m (n + 1) (omega arith))

  pub number_take : (n : ℕ) (ws : Words) → n < s.places → read_number (is_due (take place d) s n) (take place d) s n ws ≡ read_number (is_due d s n) d s n ws
  number_take n ws h =
      ap (λ b. read_number b (take place d) s n ws) (ap (λ (f : Field). ltb 0 f.width) (r.field d n h))
      ∙ alike (is_due d s n) (take place d) d s n ws (r.field d n h) (due_take n 0 (omega arith)) (due_take s.places 0 (omega arith))

module _ (m : ℕ) (d : District) (s : Slot) (n : ℕ) (vs : List ℕ) (ws : Words) where
  pub number_found : (x : ℕ) (rest : Words) → read_number (is_due d s n) d s n ws ≡ found x rest → read_numbers (suc m) d s n vs ws ≡ read_numbers m d s (n + 1) (vs ++ x ∷ []) rest
  unfolding read_numbers
  number_found x rest e = rw e

  pub number_wrong : (f : Fault) → read_number (is_due d s n) d s n ws ≡ wrong f → read_numbers (suc m) d s n vs ws ≡ wrong f
  unfolding read_numbers
  number_wrong f e = rw e

-- what a number of the record is read as, by the values before the record
pub read_here : {s : Slot} {place : ℕ} (r : Ready s place) (d before : District) → take place d ≡ before → (n : ℕ) (ws : Words) → n < s.places
    → (q : Reading Fault ℕ Words) → read_number (is_due d s n) d s n ws ≡ q → read_number (is_due before s n) before s n ws ≡ q
read_here {s} r d before e n ws h q k = ap (λ b. read_number (is_due b s n) b s n ws) (sym e) ∙ number_take r d n ws h ∙ k

pub due_here : {s : Slot} {place : ℕ} (r : Ready s place) (d before : District) → take place d ≡ before → due before s ≡ due d s
due_here {s} r d before e = ap (λ b. due b s) (sym e) ∙ due_take r d s.places 0 (omega arith)

pub too_many : (d : District) (s : Slot) (n k : ℕ) (vs : List ℕ) (w : Word) (ws : Words) → k ≡ 0 → read_numbers k d s n vs (w ∷ ws) ≡ wrong (NumberTooMany (due d s))
unfolding read_numbers
too_many d s n k vs w ws e = rw e refl

pub all_found : (d : District) (s : Slot) (n k : ℕ) (vs : List ℕ) → k ≡ 0 → read_numbers k d s n vs [] ≡ found vs []
unfolding read_numbers
all_found d s n k vs e = rw e refl
