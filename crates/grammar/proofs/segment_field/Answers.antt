-- `grammar::segment_field` meets its contract.
use Rattle.std.proofs.Common.{refl, arith}
use Rattle.grammar.specs.Slots.{slot_in}
use Rattle.grammar.proofs.segment_field.Goals as goal

pub returns-in-0-to-4 : goal.returns-in-0-to-4
returns-in-0-to-4 c = c.road_field.ensures c.args.d.now (slot_in c.args.s) refl (omega arith)
