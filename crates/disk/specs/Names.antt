-- The name of a new file.
use Rattle.std.specs.Prelude.{ℕ, ◌≤◌, ◌⊎◌}

-- no longer path is opened
abbrev pub longest_path : ℕ
longest_path = 4_095

-- how many letters or digits stand behind the point
abbrev pub letters : ℕ
letters = 6

-- an ASCII digit, capital or small letter
abbrev pub IsLetterOrDigit : ℕ → Type 0
IsLetterOrDigit b = ((48 ≤ b) × (b ≤ 57)) ⊎ ((65 ≤ b) × (b ≤ 90)) ⊎ ((97 ≤ b) × (b ≤ 122))
