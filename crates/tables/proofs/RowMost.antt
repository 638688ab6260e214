-- The greatest of a segment's entries, as the library's max over their slice finds it.
use Prim.Native.Nat.{ℕ, ◌+◌, ◌-◌, ◌≤◌, ◌<◌}
use mathlib.Core.Path.{◌≡◌, ap, ◌∙◌}
use mathlib.Core.List.{List}
use Rattle.std.specs.Prelude.{Option, None, Some}
use Rattle.std.specs.Option.{MatchOption, unwrap_or}
use native.Mathlib.Omega.{arith}
use lib.ListN.{get_or, length, take, drop, length-take, length-drop}
use lib.Seq.{get_or-take, get_or-drop}
use Rattle.base.specs.Over.{most}
use Rattle.base.proofs.Sums.{most_none, most_part, most_bound, most_cong}
use Rattle.tables.specs.Arrays.{entries, entry, entry_at, benefit_at, Benefits, Cell}
use Rattle.tables.proofs.Arrays.{benefit_at_lem}

-- the n entries behind the first `from`
abbrev pub row : List ℕ → ℕ → ℕ → List ℕ
row b n from = take (from + n - from) (drop from b)

-- a segment's row of n strategies
module _ (b : List ℕ) (places : length b ≡ entries) (n i : ℕ) (cell : Cell i n) (from : ℕ) (first : from ≡ entry i 1) where
  row_long : length (row b n from) ≡ n
  row_long = simp (length-take, length-drop) (omega (arith, cell.low, cell.high, cell.number, places))

  row_entry : (k : ℕ) → k < length (row b n from) → get_or (row b n from) k 0 ≡ entry_at b i (k + 1)
  row_entry k h =
      let at : from + k ≡ entry i (k + 1) = omega arith in
      get_or-take (from + n - from) (drop from b) k 0 (omega (arith, row_long)) ∙ get_or-drop from b k 0 ∙ ap (λ (m : ℕ). get_or b m 0) at

  -- no other is above the greatest of it, and it is among them
  pub row_most : (r : Option ℕ) → MatchOption r (length (row b n from) ≡ 0) (λ m. (k : ℕ) → k < length (row b n from) → get_or (row b n from) k 0 ≤ m)
      → MatchOption r (length (row b n from) ≡ 0) (λ m. (k : ℕ) × (k < length (row b n from)) × (get_or (row b n from) k 0 ≡ m)) → unwrap_or r 0 ≡ most n (entry_at b i)
  row_most None empty among = let none : n ≡ 0 = omega (arith, row_long) in rw none (most_none (entry_at b i))
  row_most (Some m) within among =
      let above : most n (entry_at b i) ≤ m =
      most_bound n m (entry_at b i)
      (λ j lj hj.
      let at : j - 1 + 1 ≡ j = omega arith in
      let inside : j - 1 < length (row b n from) = omega (arith, row_long) in
      omega (arith, within (j - 1) inside, rw at at (row_entry (j - 1) inside))) in
      let part = most_part n (entry_at b i) (among.0 + 1) (omega arith) (omega (arith, among.1, row_long)) in
      omega (arith, among.2, row_entry among.0 among.1)

-- where the entries are benefits, it is the greatest benefit
pub greatest_benefit : {b : List ℕ} → Benefits b → (n i : ℕ) → Cell i n → most n (entry_at b i) ≡ most n (benefit_at b i)
greatest_benefit {b} held n i cell =
    most_cong n (entry_at b i) (benefit_at b i) (λ j l h. benefit_at_lem held i j (record { low = cell.low; high = cell.high; number = omega (arith, cell.number) }))
