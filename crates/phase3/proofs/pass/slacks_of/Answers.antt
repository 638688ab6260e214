-- `phase3::pass::slacks_of` meets its contract: the slacks passed are right.
use Rattle.std.proofs.Common.{rules}
use Rattle.tables.proofs.Moves.{sums_le}
use Rattle.phase3.proofs.pass.slacks_of.Goals as goal

pub by_resource-requires-clause-callable : goal.by_resource-requires-clause-callable
by_resource-requires-clause-callable c = λ r low high. let small = sums_le c.args.planning.now.running r low high in search rules

pub returns : goal.returns
returns c = record {
  places = search rules;
  each = λ r low high.
      let small = sums_le c.args.planning.now.running r low high in
      let there = c.by_resource.ensures.each r low high in
      search rules;
}
