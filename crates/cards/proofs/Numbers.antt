-- Laws of a card's numbers: one field more, and what is then held.
use Rattle.std.proofs.Common.{ℕ, ◌≡◌, ◌+◌, ◌^◌, ◌<◌, true, false, Option, None, Some, Result, Err, ok_or, List, ap, ◌∙◌, arith}
use Rattle.base.specs.Over.{all}
use Rattle.base.specs.Text.{held}
use Rattle.base.proofs.All.{all_fails}
use Rattle.rules.specs.Answers.{wrong_field, unless}
use Rattle.rules.specs.Deck.{per_card, row, cut, written, only_inside, range_of, field_on, is_number, or_zero, is_good, number_on, Columns}
use Rattle.rules.specs.declared.Field.{Field}
use Rattle.rules.specs.declared.refusals.Refusal.{Refusal}
use Rattle.rules.specs.declared.refusals.Refusal.TheVariants.{WrongField}
use Rattle.cards.proofs.Ranges.{inside_held}

pub field_read : (counts line : List ℕ) (n : ℕ) {c : Columns} {s : List ℕ} {f : Field} {x y : Option ℕ} → f.hi < 2 ^ 64 → c ≡ row n → s ≡ cut c line
    → x ≡ held (written c.notation s) → f ≡ range_of counts c → y ≡ only_inside f x → y ≡ field_on counts line n
unfolding field_on
field_read counts line n {c} {s} {f} h ec es ex ef ey =
    rw (← ec)
    (ey ∙ ap (only_inside f) ex ∙ inside_held f (written c.notation s) h
    ∙ ap (λ (l : List ℕ). only_inside f (written c.notation l)) es
    ∙ ap (λ (g : Field). only_inside g (written c.notation (cut c line))) ef)

-- ---- its place on the card

module _ (counts line : List ℕ) (b k : ℕ) {o : Option ℕ} (e : o ≡ field_on counts line (b + k + 1)) where
  behind : b + k + 1 ≡ b + (k + 1)
  behind = omega arith

  pub good_next : {v : ℕ} → o ≡ Some v → is_good counts line b (k + 1) ≡ true
  unfolding is_good is_number
  good_next f = rw (← behind, ← e, f)

  pub number_next : {v : ℕ} → o ≡ Some v → v ≡ number_on counts line b (1 + k)
  unfolding number_on or_zero
  number_next f = let q : b + (1 + k) ≡ b + k + 1 = omega arith in rw (q, ← e, f)

  bad_next : o ≡ None → is_good counts line b (k + 1) ≡ false
  unfolding is_good is_number
  bad_next f = rw (← behind, ← e, f)

  pub bad_refuses : k < per_card → o ≡ None → unless (all per_card (is_good counts line b)) wrong_field 0 ≡ wrong_field
  bad_refuses l f = rw (all_fails per_card (is_good counts line b) (k + 1) (omega arith) (omega arith) (bad_next f))

-- the refusal of a field
pub wrong_is : {r : Refusal} {o : Option ℕ} → Err r ≡ ok_or o WrongField → o ≡ None → r ≡ WrongField
wrong_is {r} e f = let g : ◌≡◌ {A = Result ℕ Refusal} (Err r) (Err WrongField) = rw f at e in cc
