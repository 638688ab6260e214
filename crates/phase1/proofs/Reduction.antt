-- The steps of phase 1 over arrays: from programme c₀ they stand at c after m of them.
use Prim.Native.Nat.{ℕ, zero, suc, ◌+◌, ◌*◌, ◌≤◌, ◌<◌}
use mathlib.Core.Path.{◌≡◌, refl, sym, ◌∙◌}
use mathlib.Core.Bool.{true, false}
use mathlib.Core.List.{List}
use Rattle.std.specs.Prelude.{Option, None, Some}
use native.Mathlib.Omega.{arith}
use Rattle.base.proofs.Runs.{Reached, reached_start, reached_next, reached_end}
use Rattle.rules.specs.Table.{Table}
use Rattle.rules.specs.Phases.{strategy_at, chosen_share, within, next_candidate, weakest, give, pruned, step_down, step, phase1}
use Rattle.laws.proofs.Gives.{Gives, give_gives, gives_self, gives_then, gives_candidates}
use Rattle.laws.proofs.Leaders.{pruned_gives}
use Rattle.laws.proofs.Steps.{next_allowed, weakest_le, stepped, step_within, step_nobody, step_some, step_allowed}
use Rattle.laws.proofs.Shares.{chosen_share_le}
use Rattle.theorems.proofs.Phase1.{potential, potential_small, step_falls}
use Rattle.tables.specs.declared.Size.{Size}
use Rattle.tables.specs.declared.view.TableView.{TableView}
use Rattle.tables.specs.Arrays.{tables, leader_in, Bounded, Chosen}
use Rattle.tables.specs.Views.{table_in, leaders_in}
use Rattle.phase1.specs.Reduce.{Measured, Held, LedWithin, IsStep, ToStep, segment_in}
use Rattle.phase1.specs.Views.{HeldIn}
use Rattle.phase1.proofs.Pruning.{gives_chosen}

stepped_down : (t : Table) (leader : ℕ → ℕ) (c : List ℕ) (i : ℕ) → 1 ≤ i → step_down t leader c i ≡ Some (stepped t leader c i)
unfolding step_down
stepped_down t leader c zero l = absurd (omega arith)
stepped_down t leader c (suc i) l = refl

-- each candidate fits alone, so no share of a programme of candidates is above the whole limit: neither of the one held, nor of one that gives
-- segments nothing or other candidates
module _ {z : Size} {b u l s c : List ℕ} (bounded : Bounded z) (chosen : Chosen z c) (held : Held z b u l s c) where
  gives_measured : (e : List ℕ) → Gives (tables z b u l) c e → Measured z s e
  unfolding chosen_share
  gives_measured e gives =
      let now = gives_chosen z b u l c e gives chosen in
      record {
        bounded = bounded;
        chosen = now;
        small = λ i r li hi lr hr.
            rw (held.shares.shares_are i (strategy_at e i) r li hi (now.numbers i) lr hr)
            (chosen_share_le (tables z b u l) held.fit e (gives_candidates (tables z b u l) c e gives held.candidates) i r li hi lr hr);
      }

  pub held_measured : Measured z s c
  held_measured = gives_measured c (gives_self (tables z b u l) c)

  -- ---- one step: segment i takes its next candidate j, then the first m segments are pruned

  module _ (i : ℕ) (li : 1 ≤ i) (hi : i ≤ z.segments) {j : ℕ} (next : j ≡ next_candidate (tables z b u l) i (strategy_at c i)) where
    abbrev limited : Table
    limited = tables z b u l

    next_gives : Gives limited c (give c i j)
    next_gives = give_gives limited c i j li hi (rw next (next_allowed limited i (strategy_at c i)))

    pub next_measured : Measured z s (give c i j)
    next_measured = gives_measured (give c i j) next_gives

    module _ {ls : List ℕ} {m : ℕ} (led : LedWithin ls z.segments m) {e d : List ℕ} (moved : e ≡ give c i j) (pruned-to : d ≡ pruned (leader_in ls) m e) where
      after : d ≡ pruned (leader_in ls) m (give c i j)
      after = rw moved at pruned-to

      pub pruned_measured : Measured z s d
      pruned_measured =
          rw after
          (gives_measured (pruned (leader_in ls) m (give c i j))
          (gives_then limited c (give c i j) (pruned (leader_in ls) m (give c i j)) next_gives (pruned_gives (leader_in ls) limited m (give c i j) led.few)))

      pub steps_down : step_down limited (leader_in ls) c i ≡ Some d
      steps_down = rw (← next, ← led.same (give c i j), ← after) at (stepped_down limited (leader_in ls) c i li)

-- ---- all the steps

abbrev pub most_steps : TableView → ℕ
most_steps t = t.size.segments * t.size.strategies

-- each step leaves fewer candidates to step to, so there are no more than those of all segments
pub record Down (t : TableView) (s c₀ c : List ℕ) (m : ℕ) : Type 0 where
  pub held : HeldIn t s c
  pub reached : Reached (step (table_in t) (leaders_in t)) (most_steps t) c₀ c m
  pub left : m + potential (table_in t) c ≤ most_steps t

pub down_start : (t : TableView) {s c : List ℕ} → HeldIn t s c → Down t s c c 0
down_start t {s} {c} h =
    record {
      held = h;
      reached = reached_start (step (table_in t) (leaders_in t)) (most_steps t) c;
      left = omega (arith, potential_small (table_in t) c h.candidates);
    }

module _ {t : TableView} {s c₀ c : List ℕ} {m : ℕ} (down : Down t s c₀ c m) where
  abbrev table : Table
  table = table_in t

  abbrev leader : ℕ → ℕ
  leader = leaders_in t

  pub down_end : step table leader c ≡ None → (c ≡ (phase1 table leader c₀).last) × (m ≡ (phase1 table leader c₀).count)
  unfolding phase1
  down_end e = let done = reached_end (step table leader) (most_steps t) c₀ c m down.reached e in (sym done.0, sym done.1)

  -- the segment to step does
  pub down_next : {i : ℕ} → IsStep table c i → {e : List ℕ} → step_down table leader c i ≡ Some e → (m < most_steps t) × Down t s c₀ e (m + 1)
  down_next {i} found {e} to =
      let made : step table leader c ≡ Some e =
      step_some table leader c found.over i (sym found.is) found.low ∙ sym (stepped_down table leader c i found.low) ∙ to in
      let falls = step_falls table leader down.held.fit c e made down.held.candidates in
      let less : m < most_steps t = omega (arith, down.left) in (
        less,
        record {
          held = record { fit = down.held.fit; shares = down.held.shares; candidates = step_allowed table leader c e made down.held.candidates };
          reached = reached_next (step table leader) (most_steps t) c₀ c e m down.reached less made;
          left = omega (arith, down.left);
        },
      )

-- ---- what the search for the segment to step answers

module _ (t : Table) (leader : ℕ → ℕ) (c : List ℕ) where
  pub found_within : true ≡ within t c → ToStep t leader c None
  found_within h = step_within t leader c (sym h)

  pub found_weakest : false ≡ within t c → {r : Option ℕ} → r ≡ segment_in (weakest t c) → ToStep t leader c r
  found_weakest over {r} is = go r (weakest t c) refl is
    where
      go : (r : Option ℕ) (n : ℕ) → weakest t c ≡ n → r ≡ segment_in n → ToStep t leader c r
      go None zero e q = step_nobody t leader c (sym over) e
      go None (suc n) e q = absurd cc
      go (Some i) zero e q = absurd cc
      go (Some i) (suc n) e q =
          let is : i ≡ suc n = cc in
          record { over = sym over; is = is ∙ sym e; low = omega arith; high = omega (arith, weakest_le t c) }
