-- Shares of a programme of candidates, in a table whose candidates fit alone: bounds.
use Prim.Native.Nat.{ℕ, zero, suc, ◌+◌, ◌-◌, ◌*◌, ◌≤◌}
use mathlib.Core.Path.{◌≡◌}
use mathlib.Core.List.{List}
use mathlib.Core.Logic.{inl, inr}
use native.Mathlib.Nat.{div-zero, div-add-mod', div-eq_of_lt, div-lt_iff_lt-mul, mod-lt}
use native.Mathlib.Omega.{arith}
use Rattle.base.specs.Over.{divide_up}
use Rattle.rules.specs.Table.{Table}
use Rattle.rules.specs.Phases.{strategy_at, chosen_usage, share, chosen_share}
use Rattle.laws.specs.Tables.{FitAlone, Allowed, OfCandidates}

-- a part of 0 is 0
divide_up_none : (b : ℕ) → divide_up 0 b ≡ 0
divide_up_none zero = div-zero 0
divide_up_none (suc b) = div-eq_of_lt (omega arith)

-- what is at most b, times 10,000, is at most 10,000 times b
divide_up_small : (a b : ℕ) → a ≤ b → divide_up (a * 10_000) b ≤ 10_000
divide_up_small a zero h = rw (div-zero (a * 10_000 + (0 - 1))) (omega arith)
divide_up_small a (suc b) h =
    let below = (div-lt_iff_lt-mul {k = suc b} {x = a * 10_000 + (suc b - 1)} {y = 10_001} (omega arith)).1 (omega arith) in
    omega arith

-- rounded up, it covers
divide_up_covers : (a b : ℕ) → 1 ≤ b → a ≤ divide_up a b * b
divide_up_covers a b h = omega (arith, div-add-mod' (a + (b - 1)) b, mod-lt (a + (b - 1)) {m = b} h)

module _ (t : Table) where
  pub share_covers : (i j r : ℕ) → 1 ≤ t.limit r → t.usage i j r * 10_000 ≤ share t i j r * t.limit r
  unfolding share
  share_covers i j r h = divide_up_covers (t.usage i j r * 10_000) (t.limit r) h

  pub share_none : (i j r : ℕ) → t.usage i j r ≡ 0 → share t i j r ≡ 0
  unfolding share
  share_none i j r e = rw e (divide_up_none (t.limit r))

  module _ (fit : FitAlone t) (c : List ℕ) (o : OfCandidates t c) where
    pub chosen_fits : (i r : ℕ) → 1 ≤ i → i ≤ t.segments → 1 ≤ r → r ≤ t.resources → chosen_usage t c r i ≤ t.limit r
    unfolding chosen_usage
    chosen_fits i r li hi lr hr = known (strategy_at c i) (o.each i li hi)
      where
        known : (j : ℕ) → Allowed t i j → t.usage i j r ≤ t.limit r
        known j (inl e) = rw (e, fit.nothing_uses i r li hi lr hr) (omega arith)
        known j (inr w) = fit.fits i j r li hi w.0 w.1 lr hr w.2

    pub chosen_share_le : (i r : ℕ) → 1 ≤ i → i ≤ t.segments → 1 ≤ r → r ≤ t.resources → chosen_share t c r i ≤ 10_000
    unfolding chosen_share share chosen_usage
    chosen_share_le i r li hi lr hr = divide_up_small (chosen_usage t c r i) (t.limit r) (chosen_fits i r li hi lr hr)
