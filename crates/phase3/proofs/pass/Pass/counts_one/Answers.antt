-- `phase3::pass::Pass::counts_one` meets its contract.
use mathlib.Core.Path.{sym, ◌∙◌}
use mathlib.Core.Bool.{true, false}
use native.Mathlib.Omega.{arith}
use Rattle.tables.proofs.Moves.{places}
use Rattle.phase3.proofs.ChangeSearch.{high_one}
use Rattle.phase3.proofs.pass.Pass.counts_one.Goals as goal

pub returns-then-not-fits : goal.returns-then-not-fits
returns-then-not-fits c =
    let m = c.requires in
    let room = places c.args.self.now.planning.now.running in
    sym (high_one _ _ _ _ _ m.0 m.1 room (omega (arith, c.chosen.ensures.value, c.at.ensures.value)) false (sym c.fits.ensures ∙ c.if-not-fits.true))

pub returns : goal.returns
returns c =
    let m = c.requires in
    let room = places c.args.self.now.planning.now.running in
    c.respects_leaders.ensures ∙ sym (high_one _ _ _ _ _ m.0 m.1 room (omega (arith, c.chosen.ensures.value, c.at.ensures.value)) true (sym c.fits.ensures ∙ c.if-not-fits.false))
