-- What the steps of phase 1 read and keep: shares at the places of uses, surpluses, and the weakest segment so far.
use Rattle.std.specs.Prelude.{ℕ, zero, suc, ◌-◌, ◌*◌, ◌^◌, ◌≤◌, ◌≡◌, List, Bool, ◌&&◌, ltb, get_or}
use Rattle.std.specs.Prelude.{Option, None, Some, MatchOption, false}
use Rattle.base.specs.Choice.{pick}
use Rattle.base.specs.Over.{sum, best}
use Rattle.rules.specs.Table.{Table}
use Rattle.rules.specs.Phases.{strategy_at, pruned, within, share, surplus, pulls, ratio, weakest, step}
use Rattle.laws.specs.Tables.{FitAlone, OfCandidates}
use Rattle.tables.specs.declared.Size.{Size}
use Rattle.tables.specs.Arrays.{use_entry, tables, leader_in, Bounded, Chosen}

-- what an array at the places of uses holds for resource r of strategy j on segment i
abbrev pub share_at : List ℕ → ℕ → ℕ → ℕ → ℕ
share_at s i j r = get_or s (use_entry i j r) 0

-- and what it holds for resource r of segment i's strategy
abbrev pub held_share : List ℕ → List ℕ → ℕ → ℕ → ℕ
held_share s c r i = share_at s i (strategy_at c i) r

-- by a row of shares and an array of surpluses, one for each resource, what resource r adds to the pull
abbrev pub row_pull : List ℕ → List ℕ → ℕ → ℕ
row_pull row over r = get_or row (r - 1) 0 * get_or over (r - 1) 0

-- an array of the table's shares
pub record Shares (z : Size) (b u l s : List ℕ) : Type 0 where
  pub shares_are :
      (i j r : ℕ) → 1 ≤ i → i ≤ z.segments → j ≤ z.strategies → 1 ≤ r → r ≤ z.resources
      → share_at s i j r ≡ share (tables z b u l) i j r

-- a programme with what an array at the places of uses holds of it, none of it above `most`
pub record Within (most : ℕ) (z : Size) (s c : List ℕ) : Type 0 where
  pub bounded : Bounded z
  pub chosen : Chosen z c
  pub small : (i r : ℕ) → 1 ≤ i → i ≤ z.segments → 1 ≤ r → r ≤ z.resources → held_share s c r i ≤ most

-- none of it so much that a sum wraps
abbrev pub Summable : Size → List ℕ → List ℕ → Type 0
Summable = Within (2 ^ 41)

-- a programme with its shares, none above the whole limit
abbrev pub Measured : Size → List ℕ → List ℕ → Type 0
Measured = Within 10_000

-- what reduce takes beside a table and a programme, and keeps from step to step: the table's shares, and that the programme is one of
-- candidates, each of which fits alone
pub record Held (z : Size) (b u l s c : List ℕ) : Type 0 where
  pub fit : FitAlone (tables z b u l)
  pub shares : Shares z b u l s
  pub candidates : OfCandidates (tables z b u l) c

-- of n segments the first m have all the leaders, so that pruning can stop there
pub record LedWithin (ls : List ℕ) (n m : ℕ) : Type 0 where
  pub few : m ≤ n
  pub same : (c : List ℕ) → pruned (leader_in ls) m c ≡ pruned (leader_in ls) n c

-- the shares of programme c in each resource, together
pub record ShareSums (z : Size) (s c held : List ℕ) : Type 0 where
  pub each : (r : ℕ) → 1 ≤ r → r ≤ z.resources → get_or held (r - 1) 0 ≡ sum z.segments (held_share s c r)

-- an array of the surpluses, resource by resource
pub record Surpluses (t : Table) (c over : List ℕ) : Type 0 where
  pub surplus_is : (r : ℕ) → 1 ≤ r → r ≤ t.resources → get_or over (r - 1) 0 ≡ surplus t c r

-- segment i is the one to step
pub record IsStep (t : Table) (c : List ℕ) (i : ℕ) : Type 0 where
  pub over : within t c ≡ false
  pub is : i ≡ weakest t c
  pub low : 1 ≤ i
  pub high : i ≤ t.segments

-- what a search for it answers: none where there is no step
abbrev pub ToStep : Table → (ℕ → ℕ) → List ℕ → Option ℕ → Type 0
ToStep t leader c r = MatchOption r (step t leader c ≡ None) (IsStep t c)

-- the segment that a number names; 0 names none
abbrev pub segment_in : ℕ → Option ℕ
segment_in zero = None
segment_in (suc i) = Some (suc i)

-- segment i's ratio, with its number; none where it does not pull
abbrev pub ratio_at : Table → List ℕ → ℕ → Option (ℕ × ℕ)
ratio_at t c i = pick (pulls t c i) (Some (ratio t c i, i)) None

-- a test of number and value holds of those of 1, .. n that p says, where j has the value f j
abbrev pub IsTest : ℕ → (ℕ → ℕ → Bool → Type 0) → (ℕ → ℕ) → (ℕ → Bool) → Type 0
IsTest n answers f p = (j : ℕ) → 1 ≤ j → j ≤ n → (r : Bool) → answers j (f j) r → r ≡ p j

-- of 1, .. n the one of greatest value, of equals the lowest, among those of which p holds and the value is not 0; 0 where there is none
abbrev pub best_passing : ℕ → (ℕ → ℕ) → (ℕ → Bool) → ℕ
best_passing n f p = best n (λ k. ltb 0 (f k) && p k) (λ a b. ltb (f b) (f a))
