-- What a table that arrays hold, and filled shares, give the phases and the ceiling.
use Prim.Native.Nat.{ℕ, zero, suc, ◌≤◌}
use mathlib.Core.Path.{◌≡◌, refl, ap}
use mathlib.Core.Bool.{Bool, true, false}
use mathlib.Core.List.{List}
use native.Mathlib.Omega.{arith}
use borrow.Author.Tests.{leb-true, leb-false}
use lib.Dec.{leb}
use lib.ListN.{get_or, length}
use Rattle.rules.specs.District.{District, segments_of, strategies_of, resources_of}
use Rattle.rules.specs.Table.{Table, table_of}
use Rattle.rules.specs.Ceiling.{down_share, ceiling}
use Rattle.rules.specs.Phases.{strategy_at, share, total, start, phase1, phase2, phase3}
use Rattle.rules.specs.Plan.{reduced, filled as filled_by, improved, ended, programme_from, programme_of}
use Rattle.rules.specs.declared.Programme.{Programme}
use Rattle.laws.specs.Tables.{FitAlone, OfCandidates}
use Rattle.laws.proofs.Gives.{candidates_numbers}
use Rattle.laws.proofs.Steps.{start_allowed}
use Rattle.grammar.specs.Ranges.{Ranges}
use Rattle.tables.specs.Arrays.{entry, use_entry, use_entries, tables, benefit_at, Chosen}
use Rattle.tables.specs.Views.{table_in}
use Rattle.tables.specs.declared.Size.{Size}
use Rattle.tables.specs.declared.view.TableView.{TableView}
use Rattle.tables.proofs.Arrays.{benefit_at_lem, cell_of}
use Rattle.fill.specs.Filled.{SharesBy}
use Rattle.fill.proofs.Shares.{down_share_le}
use Rattle.ceiling.specs.Prices.{In, Priced, Sized}
use Rattle.phase1.specs.Reduce.{Shares}
use Rattle.planner.specs.Alone.{Holds, Placed}

-- the filled shares are those that phase 1 takes
pub shares_of : {z : Size} {b u l s : List ℕ} → SharesBy share (tables z b u l) s → Shares z b u l s
shares_of shares = record { shares_are = shares.each }

module _ (t : TableView) {s : List ℕ} (shares : SharesBy down_share (table_in t) s) where
  -- the entry of a strategy is its benefit
  entry_is : (i j : ℕ) → In t.size i j → get_or t.benefits.entries.now (entry i j) 0 ≡ benefit_at t.benefits.entries.now i j
  entry_is i j within = benefit_at_lem t.benefits.held i j (cell_of t.bounded i j within.segment_from within.segment_to within.strategy_to)

  down_is : (i j r : ℕ) → In t.size i j → 1 ≤ r → r ≤ t.size.resources → get_or s (use_entry i j r) 0 ≡ down_share (table_in t) i j r
  down_is i j r within = shares.each i j r within.segment_from within.segment_to within.strategy_to

  pub priced : Priced (table_in t) t.size t.benefits.entries.now s
  priced = record { segments = refl; strategies = refl; resources = refl; benefits = entry_is; shares = down_is }

  module _ {d : District} (ranges : Ranges d) (holds : Holds d t) where
    some_resource : 1 ≤ t.size.resources
    unfolding table_of
    some_resource =
        let same : t.size.resources ≡ resources_of d = ap (λ (t : Table). t.resources) holds.table in
        omega (arith, ranges.some_resource)

    pub sized : length s ≡ use_entries → Sized t.size t.benefits.entries.now s
    sized long =
        record {
          segments = t.bounded.segments;
          strategies = t.bounded.strategies;
          resources_from = some_resource;
          resources_to = t.bounded.resources;
          benefits_length = t.benefits.held.places;
          shares_length = long;
          benefit_small = t.benefits.held.small;
          share_small = λ i j r within worth from to.
              rw (down_is i j r within from to)
              (down_share_le (table_in t) holds.fit i j r within.segment_from within.segment_to within.strategy_from within.strategy_to from to (omega (arith, entry_is i j within, worth)));
        }

-- ---- the phases' results, put together

pub together : (t : Table) (leader : ℕ → ℕ) (c₁ c₂ c₃ : List ℕ) (m₁ m₂ m₃ v₂ v₃ x : ℕ)
    → c₂ ≡ (phase2 t leader c₁).last → m₂ ≡ (phase2 t leader c₁).count → v₂ ≡ total t c₂
    → c₃ ≡ (phase3 t leader c₂).last → m₃ ≡ (phase3 t leader c₂).count → v₃ ≡ total t c₃ → x ≡ ceiling t
    → record { strategies = c₃; total = v₃; after_pickups = v₂; ceiling = x; steps = m₁; pickups = m₂; changes = m₃ }
    ≡ programme_from t leader (record { last = c₁; count = m₁ })
unfolding programme_from improved filled_by
together t leader c₁ c₂ c₃ m₁ m₂ m₃ v₂ v₃ x e₂ f₂ g₂ e₃ f₃ g₃ h = rw (h, g₃, e₃, f₃, g₂, e₂, f₂)

-- phase 1 from its start
pub reduced_from : (t : Table) (leader : ℕ → ℕ) {c₀ c₁ : List ℕ} {m : ℕ} → c₀ ≡ start t leader → c₁ ≡ (phase1 t leader c₀).last → m ≡ (phase1 t leader c₀).count
    → (c₁ ≡ (reduced t leader).last) × (m ≡ (reduced t leader).count)
unfolding reduced
reduced_from t leader e f g = (rw e at f, rw e at g)

-- from where phase 1 ended, the whole programme
pub from_reduced : (t : Table) (leader : ℕ → ℕ) {c : List ℕ} {m : ℕ} {p : Programme} → c ≡ (reduced t leader).last → m ≡ (reduced t leader).count
    → p ≡ programme_from t leader (record { last = c; count = m }) → p ≡ programme_of t leader
unfolding programme_of
from_reduced t leader e f g = rw (e, f) at g

-- the start is a programme of candidates
pub start_held : (t : Table) (leader : ℕ → ℕ) → FitAlone t → {c : List ℕ} → c ≡ start t leader → OfCandidates t c
start_held t leader fit e = rw e (start_allowed t leader fit.segments)

-- phases 2 and 3 of a table, from where phase 1 ended
pub ended_by : (t : Table) (leader : ℕ → ℕ) {c₁ c₂ c₃ : List ℕ} → c₁ ≡ (reduced t leader).last → c₂ ≡ (phase2 t leader c₁).last → c₃ ≡ (phase3 t leader c₂).last → c₃ ≡ ended t leader
unfolding improved filled_by
ended_by t leader e f g = rw (rw e at f) at g

-- ---- where phases 2 and 3 go on

-- the strategies of a programme that is placed are numbers of the arrays that hold the district
pub chosen_of : {d : District} {t : TableView} {c : List ℕ} → Holds d t → Placed (table_of d) c → Chosen t.size c
unfolding table_of
chosen_of {d} {t} {c} holds placed = record { places = placed.candidates.places; numbers = number }
  where
    same : t.size.strategies ≡ strategies_of d
    same = ap (λ (t : Table). t.strategies) holds.table

    from_one : (i : ℕ) → 1 ≤ i → (v : Bool) → leb i (segments_of d) ≡ v → strategy_at c i ≤ t.size.strategies
    from_one i l true q = omega (arith, same, candidates_numbers (table_of d) c placed.candidates i l (leb-true i (segments_of d) q))
    from_one i l false q = omega (arith, placed.past i l (leb-false i (segments_of d) q))

    number : (i : ℕ) → strategy_at c i ≤ t.size.strategies
    number zero = from_one 1 (omega arith) (leb 1 (segments_of d)) refl
    number (suc i) = from_one (suc i) (omega arith) (leb (suc i) (segments_of d)) refl
