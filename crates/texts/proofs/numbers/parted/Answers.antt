-- `numbers::parted` meets its contract.
use Rattle.std.proofs.Common.{◌∙◌}
use Rattle.texts.proofs.Digits.{minus, no_minus}
use Rattle.texts.proofs.numbers.parted.Goals as goal

pub returns-then-starts_with : goal.returns-then-starts_with
returns-then-starts_with c = let m = minus c.args.word.now c.if-starts_with.ensures.value in (m.0, c.drop.ensures ∙ m.1)

pub returns-else-starts_with : goal.returns-else-starts_with
returns-else-starts_with c = no_minus c.args.word.now c.if-starts_with.ensures.value
