-- The bytes of a printed text: words and numbers are spelt in bytes from '-' on, where no mark stands, and a record's line in bytes from the space on.
use Rattle.std.proofs.Common.{ℕ, zero, suc, ◌+◌, ◌/◌, ◌%◌, ◌≤◌, ◌≡◌, true, leb, ltb, eqb, List, [], ◌∷◌, ◌++◌, length, length-append, ℤ, pos, negsuc, refl, arith, leb-true}
use Rattle.std.specs.List.{All, list_all}
use Rattle.std.proofs.lemmas.List.Elements.{All-nil, All-cons, All-append, All-weaker, All-from_get_or}
use Rattle.std.proofs.lemmas.List.Sums.{AllPass-from_list_all}
use Rattle.base.specs.Choice.{pick}
use Rattle.base.specs.Text.{text, digits_of, decimal}
use Rattle.base.proofs.Choice.{pick_all}
use Rattle.base.proofs.Digits.{decimal_each}
use Rattle.rules.specs.District.{District, value_at}
use Rattle.rules.specs.Format.{plain_form, leader_form, field_at, Slot}
use Rattle.texts.specs.Words.{Word}
use Rattle.texts.specs.Numbers.{minus_sign, written, shown_in}
use Rattle.texts.specs.Records.{word_of, is_numbered, name_of, is_due}
use Rattle.texts.specs.Printing.{numbers_text, comment_of}

-- a test of all bytes says it of each
from_on : (low : ℕ) (bs : List ℕ) → list_all (leb low) bs ≡ true → All (λ b. low ≤ b) bs
from_on low bs e = All-weaker _ (λ b. low ≤ b) (λ b t. leb-true low b t) bs (AllPass-from_list_all (leb low) bs e)

-- not empty, and of bytes from '-' on, as digits and letters are
pub record Spelt (w : Word) : Type 0 where
  pub some : 1 ≤ length w
  pub high : All (λ b. minus_sign ≤ b) w

spelt : (w : Word) → 1 ≤ length w → list_all (leb minus_sign) w ≡ true → Spelt w
spelt w l e = record { some = l; high = from_on minus_sign w e }

pub word_spelt : (kind : ℕ) → Spelt (word_of kind)
unfolding word_of text
word_spelt kind =
    pick_all Spelt (eqb kind plain_form) (text "district") _ (spelt (text "district") (omega arith) refl)
    (pick_all Spelt (eqb kind leader_form) (text "led-district") _ (spelt (text "led-district") (omega arith) refl)
    (pick_all Spelt (eqb kind 2) (text "limits") _ (spelt (text "limits") (omega arith) refl)
    (pick_all Spelt (eqb kind 3) (text "greatest") _ (spelt (text "greatest") (omega arith) refl)
    (pick_all Spelt (eqb kind 4) (text "strategy") _ (spelt (text "strategy") (omega arith) refl)
    (pick_all Spelt (eqb kind 5) (text "pavement") _ (spelt (text "pavement") (omega arith) refl)
    (pick_all Spelt (eqb kind 6) (text "segment") (text "end") (spelt (text "segment") (omega arith) refl) (spelt (text "end") (omega arith) refl)))))))

digits_some : (k n : ℕ) → 1 ≤ length (digits_of (suc k) n)
unfolding digits_of
digits_some k n =
    pick_all (λ (l : List ℕ). 1 ≤ length l) (ltb n 10) ((48 + n) ∷ []) (digits_of k (n / 10) ++ ((48 + n % 10) ∷ [])) (omega arith) (simp length-append (omega arith))

decimal_spelt : (n : ℕ) → Spelt (decimal n)
unfolding decimal
decimal_spelt n =
    record {
      some = digits_some 19 n;
      high = All-from_get_or (λ b. minus_sign ≤ b) (decimal n) minus_sign (λ i l. decimal_each (λ b. minus_sign ≤ b) minus_sign (omega arith) (λ x h. omega arith) n i);
    }

pub written_spelt : (v : ℤ) → Spelt (written v)
unfolding written
written_spelt (pos n) = decimal_spelt n
written_spelt (negsuc n) = record { some = omega arith; high = All-cons (λ b. minus_sign ≤ b) minus_sign (decimal (suc n)) (omega arith) (decimal_spelt (suc n)).high }

-- ---- what holds of the bytes from '-' on holds of those that spell

module _ (P : ℕ → Type 0) (high : (b : ℕ) → minus_sign ≤ b → P b) where
  pub spelt_all : {w : Word} → Spelt w → All P w
  spelt_all {w} s = All-weaker _ P high w s.high

  -- and where it holds of a space, of those of the numbers
  pub numbers_all : P 32 → (m : ℕ) (d : District) (s : Slot) (n place : ℕ) → All P (numbers_text m d s n place)
  unfolding numbers_text text
  numbers_all space zero d s n place = All-nil P
  numbers_all space (suc m) d s n place =
      let v : ℤ = shown_in (field_at d s n) (value_at d place) in
      All-append P (pick (is_due d s n) (32 ∷ written v) []) (numbers_text m d s (n + 1) (place + 1))
      (pick_all (All P) (is_due d s n) (32 ∷ written v) [] (All-cons P 32 (written v) space (spelt_all (written_spelt v))) (All-nil P))
      (numbers_all space m d s (n + 1) (place + 1))

-- ---- no byte of a record's line is below the space

abbrev pub Shown : ℕ → Type 0
Shown b = 32 ≤ b

spelt_shown : {w : Word} → Spelt w → All Shown w
spelt_shown s = spelt_all Shown (λ b h. omega arith) s

name_shown : (s : Slot) → All Shown (name_of s)
unfolding name_of text
name_shown s =
    let number : List ℕ = 32 ∷ decimal (s.nth + 1) in
    All-append Shown (word_of s.kind) (pick (is_numbered s) number []) (spelt_shown (word_spelt s.kind))
    (pick_all (All Shown) (is_numbered s) number [] (All-cons Shown 32 (decimal (s.nth + 1)) (omega arith) (spelt_shown (decimal_spelt (s.nth + 1)))) (All-nil Shown))

comment_shown : (s : Slot) → All Shown (comment_of s)
unfolding comment_of text
comment_shown s =
    let counts : List ℕ = text " # segments, strategies, years, distress types, pavement types, resources" in
    pick_all (All Shown) (eqb s.kind s.form) counts _ (from_on 32 counts refl)
    (pick_all (All Shown) (is_numbered s) (text " # " ++ name_of s) [] (All-append Shown (text " # ") (name_of s) (from_on 32 (text " # ") refl) (name_shown s)) (All-nil Shown))

pub line_shown : (d : District) (s : Slot) (place : ℕ) → All Shown (word_of s.kind ++ (numbers_text s.places d s 0 place ++ comment_of s))
line_shown d s place =
    All-append Shown (word_of s.kind) (numbers_text s.places d s 0 place ++ comment_of s) (spelt_shown (word_spelt s.kind))
    (All-append Shown (numbers_text s.places d s 0 place) (comment_of s) (numbers_all Shown (λ b h. omega arith) (omega arith) s.places d s 0 place) (comment_shown s))
