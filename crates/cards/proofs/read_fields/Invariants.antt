use Rattle.std.proofs.Common.{◌≡◌, ◌++◌, true, drop, replicate}
use Rattle.base.specs.Over.{all, listed_from}
use Rattle.rules.specs.Deck.{per_card, is_good, number_on}
use Rattle.cards.specs.Cards.{rows_before, counts_with}
use Rattle.cards.proofs.read_fields.Given as goal

-- the fields so far are good, and their numbers stand in front
abbrev pub invariant-loop-n : goal.invariant-loop-n
invariant-loop-n l =
    record {
      good : all l.n (is_good (counts_with l.card) l.line (rows_before l.card)) ≡ true;
      front : l.number-items ≡ listed_from l.n 1 (number_on (counts_with l.card) l.line (rows_before l.card)) ++ drop l.n (replicate per_card 0);
    }
