-- The numbers that a function may be handed.
use Rattle.std.specs.Prelude.{ℕ, ◌≤◌}
use Rattle.rules.specs.Blocks.{most_blocks}

abbrev pub Block : ℕ → Type 0
Block b = (1 ≤ b) × (b ≤ most_blocks)
