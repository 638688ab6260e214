-- What is promised of a file that is turned, and turned back.
use Rattle.std.specs.Prelude.{ℕ, ◌≡◌, List}
use Rattle.base.specs.Bytes.{Bytes}
use Rattle.rules.specs.Calls.{load_of}
use Rattle.rules.specs.Conversions.{up_refusal, up_file, down_refusal, down_file}
use Rattle.rules.specs.Answers.{Accepted}
use Rattle.rules.specs.declared.Unit.{Unit}

-- a file, the one that it is turned into, what refuses that to be turned back, and what it is turned back into
pub record Returns (file new : List ℕ) (refusal : ℕ) (again : List ℕ) : Type 0 where
  pub accepted : refusal ≡ 0
  pub returned : again ≡ file
  -- a unit in any state loads both, to the same district with the same programme
  pub loads : (u : Unit) → (load_of u file).answer ≡ Accepted 0
  pub alike : (u : Unit) → load_of u new ≡ load_of u file

abbrev pub UpAndDown : List ℕ → Type 0
UpAndDown file = Bytes file → up_refusal file ≡ 0 → Returns file (up_file file) (down_refusal (up_file file)) (down_file (up_file file))

-- where down is possible
abbrev pub DownAndUp : List ℕ → Type 0
DownAndUp file = Bytes file → down_refusal file ≡ 0 → Returns file (down_file file) (up_refusal (down_file file)) (up_file (down_file file))
