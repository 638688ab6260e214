-- A district planned in blocks, as the code does it: block after block, and then on from the joined lists.
use Prim.Native.Nat.{ℕ, ◌+◌, ◌^◌, ◌≤◌, ◌<◌}
use mathlib.Core.Path.{◌≡◌, refl, ◌∙◌}
use mathlib.Core.Bool.{true, false}
use mathlib.Core.List.{List, ◌++◌}
use native.Mathlib.Numerals.{add-one}
use native.Mathlib.Omega.{arith}
use lib.ListN.{take, drop, replicate}
use Rattle.base.specs.Over.{sum}
use Rattle.base.proofs.Sums.{sum_more, sum_next}
use Rattle.rules.specs.District.{District, most_segments, leader_of}
use Rattle.rules.specs.File.{in_range}
use Rattle.rules.specs.Table.{table_of}
use Rattle.rules.specs.Plan.{programme_from, programme_of, no_programme}
use Rattle.rules.specs.Blocks.{blocks_in, end_of, followed, block_district, block_table, block_reduced, block_list, block_steps, joined, by_blocks, begun, programme_by, plan_by}
use Rattle.rules.specs.declared.Choice.{Choice}
use Rattle.rules.specs.declared.Programme.{Programme}
use Rattle.laws.proofs.Blocks.{begun_by, begun_ordinary}
use Rattle.grammar.specs.Ranges.{Ranges}
use Rattle.grammar.proofs.InRanges.{in_ranges}
use Rattle.rating.proofs.Few.{few_of}
use Rattle.theorems.proofs.Entries.{past_is}
use Rattle.theorems.proofs.Joined.{joined_begins, in_blocks}
use Rattle.planner.specs.Alone.{Alone, Placed, run_of}
use Rattle.planner.specs.declared.Begun.{Begun}

module _ (x : Choice) (d : District) where
  -- ---- a block, and the blocks so far

  pub block_list_is : (b : ℕ) {e : District} {p : Begun} → e ≡ block_district x d b → Alone (table_of e) (leader_of e) p → p.strategies ≡ block_list x d b
  unfolding block_list block_reduced block_table
  block_list_is b is alone = rw is at alone.strategies

  pub block_steps_is : (b : ℕ) {e : District} {p : Begun} → e ≡ block_district x d b → Alone (table_of e) (leader_of e) p → p.steps ≡ block_steps x d b
  unfolding block_steps block_reduced block_table
  block_steps_is b is alone = rw is at alone.steps

  pub joined_none : replicate most_segments 0 ≡ joined x d 0
  unfolding joined
  joined_none = refl

  pub joined_more :
      (b : ℕ) {j k list : List ℕ} {end : ℕ} → j ≡ joined x d b → end ≡ end_of x d b → list ≡ block_list x d (b + 1) → k ≡ take end j ++ drop end list
      → k ≡ joined x d (b + 1)
  unfolding joined
  joined_more b e f g h = h ∙ rw (e, f, g, add-one b) refl

  pub all_joined : (b : ℕ) {p : Begun} → b ≡ blocks_in x d → p.strategies ≡ joined x d b → p.steps ≡ sum b (block_steps x d) → run_of p ≡ by_blocks x d
  unfolding by_blocks
  all_joined b z e f = rw (← z, e, f) refl

  module _ (ranges : Ranges d) where
    -- the steps so far and those of one block more fit
    pub steps_fit : followed x d ≡ true → (b : ℕ) → b + 1 ≤ blocks_in x d → sum b (block_steps x d) + block_steps x d (b + 1) < 2 ^ 64
    unfolding programme_by programme_from by_blocks
    steps_fit ok b h =
        let few : (begun x d).count ≤ 704 = (in_blocks x d (few_of d ranges)).steps in
        omega (arith, sum_next b (block_steps x d) refl, sum_more (b + 1) (blocks_in x d) (block_steps x d) h, rw (begun_by x d ok) at few)

    -- ---- phases 2 and 3 go on from there

    pub joined_placed : followed x d ≡ true → {p : Begun} → run_of p ≡ by_blocks x d → Placed (table_of d) p.strategies
    unfolding table_of
    joined_placed ok e =
        let begins = joined_begins x d (few_of d ranges) ok in
        let placed : Placed (table_of d) (by_blocks x d).last = record { candidates = begins.candidates; past = begins.past (past_is d) } in
        rw (← e) at placed

  pub from_blocks : followed x d ≡ true → {begun : Begun} {p : Programme} → run_of begun ≡ by_blocks x d → p ≡ programme_from (table_of d) (leader_of d) (run_of begun) → p ≡ programme_by x d
  unfolding programme_by
  from_blocks ok e f = rw (begun_by x d ok) (rw e at f)

  pub ordinary : followed x d ≡ false → {p : Programme} → p ≡ programme_of (table_of d) (leader_of d) → p ≡ programme_by x d
  unfolding programme_by programme_of
  ordinary out e = rw (begun_ordinary x d out) e

  -- ---- the plan

  abbrev Planned : Programme → Type 0
  Planned p = (p ≡ plan_by x d) × (p.steps ≤ 704)

  pub planned : {p : Programme} → in_range d ≡ true → p ≡ programme_by x d → Planned p
  unfolding plan_by
  planned ok e = (rw ok e, rw e (in_blocks x d (few_of d (in_ranges d ok))).steps)

  pub unplanned : {p : Programme} → in_range d ≡ false → p ≡ no_programme → Planned p
  unfolding plan_by no_programme
  unplanned q e = (rw q e, rw e (omega arith))
