use Rattle.std.proofs.Common.{◌≡◌, ◌++◌, drop}
use Rattle.base.specs.Over.{listed_from}
use Rattle.rules.specs.Answers.{first_refusal}
use Rattle.rules.specs.Deck.{segment_refusal, segment_in}
use Rattle.cards.specs.Cards.{no_segments}
use Rattle.cards.proofs.read.Given as goal

-- no segment so far is refused, and their numbers are held
abbrev pub invariant-loop-i : goal.invariant-loop-i
invariant-loop-i l =
    record {
      none : first_refusal l.i (segment_refusal l.deck) ≡ 0;
      held : l.segments ≡ listed_from l.i 1 (segment_in l.deck) ++ drop l.i no_segments;
    }
