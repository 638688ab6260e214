-- `reading::form_in` meets its contract.
use Rattle.std.proofs.Common.{ℕ, ◌≡◌, List, [], ◌∷◌, refl, sym, ap, ◌∙◌}
use Rattle.base.specs.Choice.{pick}
use Rattle.base.specs.Same.{same}
use Rattle.base.specs.Text.{text}
use Rattle.rules.specs.Format.{plain_form, leader_form}
use Rattle.texts.specs.Words.{Word, Words, Line}
use Rattle.texts.specs.Records.{word_of}
use Rattle.texts.specs.Reading.{form_in}
use Rattle.texts.proofs.reading.form_in.Goals as goal

no_line : (ls : List Line) → ls ≡ [] → form_in ls ≡ plain_form
unfolding form_in
no_line ls e = rw e refl

module _ (n : ℕ) (ws : Words) (ls rest : List Line) (e : ls ≡ record { number = n; words = ws } ∷ rest) where
  no_word : ws ≡ [] → form_in ls ≡ plain_form
  unfolding form_in same word_of text
  no_word h = rw (e, h) refl

  by_word : (w : Word) (vs : Words) → ws ≡ w ∷ vs → form_in ls ≡ pick (same w (word_of leader_form)) leader_form plain_form
  unfolding form_in
  by_word w vs h = rw (e, h) refl

pub returns-in_default : goal.returns-in_default
returns-in_default c = sym (no_line _ c.in_default.ensures.0)

pub returns-in_default-next : goal.returns-in_default-next
returns-in_default-next c = sym (no_word _ _ _ _ c.in-Ok.ensures.0 c.in_default-next.ensures)

pub returns-then-is_word : goal.returns-then-is_word
returns-then-is_word c = sym (by_word _ _ _ _ c.in-Ok.ensures.0 _ _ c.in-Some.ensures ∙ ap (λ t. pick t leader_form plain_form) (sym c.is_word.ensures ∙ c.if-is_word.true))

pub returns-else-is_word : goal.returns-else-is_word
returns-else-is_word c = sym (by_word _ _ _ _ c.in-Ok.ensures.0 _ _ c.in-Some.ensures ∙ ap (λ t. pick t leader_form plain_form) (sym c.is_word.ensures ∙ c.if-is_word.false))
