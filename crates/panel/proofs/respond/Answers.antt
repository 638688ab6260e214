-- `panel::respond` meets its contract, of all that may be held.
use mathlib.Core.Path.{sym, ◌∙◌}
use Rattle.panel.specs.Console.{Loads, Exports, load, export}
use Rattle.panel.proofs.Says.{path_short, turns_file, turns_blocks, turns_other}
use Rattle.panel.proofs.respond.Goals as goal

pub load-requires : goal.load-requires
load-requires g c = path_short _ _ _ c.path.ensures c.requires.0

pub export-requires : goal.export-requires
export-requires g c = (path_short _ _ _ c.path-in-Export.ensures c.requires.0, c.requires.1)

pub choose-requires : goal.choose-requires
choose-requires g c = c.requires.1

pub returns-in-Load : goal.returns-in-Load
returns-in-Load g c =
    λ s k. let is = sym c.parse.ensures ∙ c.in-Load.is in
    turns_file Loads k c.path.ensures (λ t bs l. load is l) c.load.ensures

pub returns-in-Export : goal.returns-in-Export
returns-in-Export g c =
    λ s k. let is = sym c.parse.ensures ∙ c.in-Export.is in
    turns_file Exports k c.path-in-Export.ensures (λ t bs x. export is x) c.export.ensures

pub returns-in-Blocks : goal.returns-in-Blocks
returns-in-Blocks g c = λ s k. turns_blocks k (sym c.parse.ensures ∙ c.in-Blocks.is) c.choose.ensures

pub returns-in_default : goal.returns-in_default
returns-in_default g c = λ s k. turns_other k c.parse.ensures c.in_default.not-Load c.in_default.not-Export c.in_default.not-Blocks c.obey.ensures
