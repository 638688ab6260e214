-- `start_of` meets its contract: records of one kind start one after another.
use Rattle.std.proofs.Common.{ℕ, ◌+◌, ◌-◌, ◌≡◌, sym, ap, ◌∙◌, arith}
use Rattle.rules.specs.Format.{first_strategy_record, first_pavement_record, first_segment_record}
use Rattle.grammar.specs.Places.{start_of}
use Rattle.grammar.proofs.Slots.{start_strategy, start_pavement, start_segment}
use Rattle.grammar.proofs.start_of.Goals as goal

-- the n-th record is one of those from the first on
from : (first n p : ℕ) → first + (n - first) ≡ n → start_of (first + (n - first)) ≡ p → p ≡ start_of n
from first n p e s = sym s ∙ ap start_of e

pub returns-in-0-to-13 : goal.returns-in-0-to-13
returns-in-0-to-13 c = from first_strategy_record c.args.n _ (omega arith) (start_strategy (c.args.n - first_strategy_record) (omega arith))

pub returns-in-0-to-17 : goal.returns-in-0-to-17
returns-in-0-to-17 c = from first_pavement_record c.args.n _ (omega arith) (start_pavement (c.args.n - first_pavement_record) (omega arith))

pub returns-in_default : goal.returns-in_default
returns-in_default c = from first_segment_record c.args.n _ (omega arith) (start_segment (c.args.n - first_segment_record) (omega arith))
