-- What request 13 of document 02 promises of a district that is planned in blocks, beside demand 3.
use Rattle.std.specs.Prelude.{◌*◌, ◌≤◌, ◌≡◌, refl, true, List}
use Rattle.base.specs.Over.{sum}
use Rattle.rules.specs.District.{District, most_segments, most_strategies}
use Rattle.rules.specs.Blocks.{choice_of, blocks_in, followed, block_total}
use Rattle.rules.specs.Calls.{show_of}
use Rattle.rules.specs.Lists.{Call, district_after, choice_after, unit_after}
use Rattle.rules.specs.Blocked.{county, two_blocks}
use Rattle.rules.specs.Results.{result_of}
use Rattle.rules.specs.declared.Choice.{Choice}
use Rattle.rules.specs.declared.Programme.{Programme}

-- of a choice, a district and the programme shown for them
pub record InBlocks (x : Choice) (d : District) (p : Programme) : Type 0 where
  -- where the blocks are followed, the total is at least the sum of theirs;
  pub total : followed x d ≡ true → sum (blocks_in x d) (block_total x d) ≤ p.total
  -- in blocks or not, there is at most a step for each strategy of each segment
  pub steps : p.steps ≤ most_segments * most_strategies

-- after any list of calls
abbrev pub EveryBlockPlan : Type 0
EveryBlockPlan = (cs : List Call) → InBlocks (choice_after cs) (district_after cs) (show_of (unit_after cs))

-- computed: of two blocks that come to 400,000 and 360,000 the total is promised to be no less than both together
pub of_county : (p : Programme) → InBlocks (choice_of (two_blocks 6)) county p → 760_000 ≤ p.total
unfolding result_of
of_county p in_blocks = in_blocks.total refl
