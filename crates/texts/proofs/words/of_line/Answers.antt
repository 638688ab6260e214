-- `words::of_line` meets its contract.
use Rattle.std.proofs.Common.{ap}
use Rattle.texts.specs.Words.{words_in, words_of}
use Rattle.texts.proofs.words.of_line.Goals as goal

pub returns : goal.returns
unfolding words_of
returns c = ap words_in c.up_to.ensures
