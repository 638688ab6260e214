-- `records::is_word` meets its contract.
use Rattle.std.proofs.Common.{ℕ, ◌≡◌, ◌&&◌, List, [], ◌∷◌, eqb, refl, ap, ◌∙◌}
use lib.Pointwise.{pointwise}
use Rattle.base.specs.Same.{same}
use Rattle.texts.proofs.records.is_word.Goals as goal

pairs : (xs ys : List ℕ) → pointwise eqb xs ys ≡ same xs ys
unfolding same
pairs [] [] = refl
pairs [] (y ∷ ys) = refl
pairs (x ∷ xs) [] = refl
pairs (x ∷ xs) (y ∷ ys) = ap (λ t. eqb x y && t) (pairs xs ys)

pub returns : goal.returns
returns c = c.eq.ensures ∙ pairs c.args.word.now c.word_of.result.now ∙ ap (same c.args.word.now) c.word_of.ensures
