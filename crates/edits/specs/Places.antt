-- The greatest number, past every place.
use Rattle.std.specs.Prelude.{ℕ, ◌^◌, ◌-◌}

abbrev pub usize_max : ℕ
usize_max = 2 ^ 64 - 1
