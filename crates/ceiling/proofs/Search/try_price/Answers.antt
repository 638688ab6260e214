-- `ceiling::Search::try_price` meets its contract.
use Rattle.ceiling.proofs.Search.try_price.Goals as goal

pub trial-ceiling-requires : goal.trial-ceiling-requires
trial-ceiling-requires c = c.requires

pub reprice-requires : goal.reprice-requires
reprice-requires c = record { prices = (c.args.self.now.fit, c.requires); costs = c.args.self.now.standing.costs }
