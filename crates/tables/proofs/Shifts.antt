-- A shift of the first n sums by rows of which it is known, resource by resource, what they hold: f goes and g comes.
use Prim.Native.Nat.{ℕ, ◌+◌, ◌-◌, ◌^◌, ◌≤◌, ◌<◌}
use mathlib.Core.Path.{◌≡◌}
use mathlib.Core.List.{List, ◌++◌}
use native.Mathlib.Omega.{arith}
use lib.ListN.{get_or, length, take, drop, length-take, length-drop, length-append, get_or-append}
use lib.Seq.{get_or-take}
use Rattle.rules.specs.District.{most_resources}
use Rattle.tables.specs.Moves.{Shiftable, Shifted}

module _ (n : ℕ) (few : n ≤ most_resources) (f g : ℕ → ℕ) (sums : List ℕ) {less more : List ℕ} (sums_long : length sums ≡ most_resources)
    (less_long : length less ≡ most_resources) (more_long : length more ≡ most_resources)
    (less_are : (r : ℕ) → 1 ≤ r → r ≤ most_resources → get_or less (r - 1) 0 ≡ f r)
    (more_are : (r : ℕ) → 1 ≤ r → r ≤ most_resources → get_or more (r - 1) 0 ≡ g r) where
  pub shiftable : ((r : ℕ) → 1 ≤ r → r ≤ n → (f r ≤ get_or sums (r - 1) 0) × (get_or sums (r - 1) 0 + g r < 2 ^ 64)) → Shiftable (take n sums) less more
  shiftable room =
      let part : length (take n sums) ≡ n = omega (arith, length-take n sums) in
      record {
        less_there = omega arith;
        more_there = omega arith;
        held = λ k h.
            let at : k + 1 - 1 ≡ k = omega arith in
            omega (arith, rw at at (room (k + 1) (omega arith) (omega arith)).0, rw at at (less_are (k + 1) (omega arith) (omega arith)), get_or-take n sums k 0 (omega arith));
        small = λ k h.
            let at : k + 1 - 1 ≡ k = omega arith in
            omega (arith, rw at at (room (k + 1) (omega arith) (omega arith)).1, rw at at (more_are (k + 1) (omega arith) (omega arith)), get_or-take n sums k 0 (omega arith));
      }

  module _ {moved : List ℕ} (is : Shifted (take n sums) less more moved) where
    pub shifted_long : length (moved ++ drop n sums) ≡ most_resources
    shifted_long = omega (arith, length-append moved (drop n sums), length-drop n sums, is.places, length-take n sums)

    pub shifted_are : (r : ℕ) → 1 ≤ r → r ≤ n → get_or (moved ++ drop n sums) (r - 1) 0 + f r ≡ get_or sums (r - 1) 0 + g r
    shifted_are r low high =
        let part : length (take n sums) ≡ n = omega (arith, length-take n sums) in
        omega (arith, get_or-append moved (drop n sums) 0 (r - 1) (omega (arith, is.places)), is.each (r - 1) (omega arith), get_or-take n sums (r - 1) 0 (omega arith), less_are r low (omega arith), more_are r low (omega arith))
