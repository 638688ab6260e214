-- `ceiling::Candidates::cost_at` meets its contract.
use Rattle.ceiling.proofs.Costs.{trial_of, move_fits, move_is}
use Rattle.ceiling.proofs.candidates.Candidates.cost_at.Goals as goal

pub moved-requires : goal.moved-requires
moved-requires c =
    let trial = trial_of c.args.self c.args.new c.requires.prices.0 c.requires.prices.1 in
    rw c.use_entry.ensures (move_fits trial c.requires.candidate.0 c.requires.candidate.1 c.requires.present)

pub returns : goal.returns
returns c =
    let trial = trial_of c.args.self c.args.new c.requires.prices.0 c.requires.prices.1 in
    move_is trial c.requires.candidate.0 c.requires.candidate.1 c.requires.present (rw c.use_entry.ensures at c.moved.ensures)
