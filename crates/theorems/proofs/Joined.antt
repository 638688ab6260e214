-- The lists of the blocks, joined, are a programme from which phases 2 and 3 of the district can go on: of its candidates, within its limits, and
-- with leaders respected. Its total is the sum of the blocks' totals.
use Prim.Native.Nat.{ℕ, zero, suc, ◌+◌, ◌-◌, ◌*◌, ◌≤◌, ◌<◌}
use mathlib.Core.Path.{◌≡◌, refl, sym, ap, ◌∙◌}
use mathlib.Core.Bool.{Bool, true, false, not}
use mathlib.Core.List.{List, ◌++◌}
use mathlib.Core.Logic.{inl, ⊎_elim}
use native.Mathlib.Nat.{mul-le-mul}
use native.Mathlib.Omega.{arith}
use borrow.Author.Tests.{le-leb, eqb-true}
use lib.Dec.{eqb}
use lib.ListN.{length, get_or, take, drop, length-append, length-drop, get_or-append}
use lib.Seq.{length-take-le, get_or-take, get_or-drop, get_or-append-add}
use Rattle.std.proofs.lemmas.Bool.{or_cases, cases_lt}
use Rattle.base.specs.Choice.{pick}
use Rattle.base.specs.Over.{sum}
use Rattle.base.specs.Search.{Run}
use Rattle.base.proofs.All.{all_at, all_true}
use Rattle.base.proofs.Choice.{pick_all, pick_by}
use Rattle.base.proofs.Each.{each_replicate}
use Rattle.base.proofs.Sums.{sum_le, sum_cong, sum_bound, sum_add, sum_zero, sum_swap, sum_mul_right}
use Rattle.rules.specs.District.{District, most_segments, segments_of, strategies_of, resources_of, limit_of, leader_of}
use Rattle.rules.specs.Rating.{scaled_limit}
use Rattle.rules.specs.Table.{Table, table_of}
use Rattle.rules.specs.Phases.{strategy_at, chosen_benefit, total, chosen_usage, used, holds, within, heeds, respects}
use Rattle.rules.specs.Plan.{reduced, improved, programme_from}
use Rattle.rules.specs.Blocks.{blocks_in, part_of, in_block, end_of, part_in, led_inside, leaders_inside, followed, block_list, block_steps, block_total, joined, by_blocks, begun, programme_by}
use Rattle.rules.specs.declared.Choice.{Choice}
use Rattle.laws.specs.Counts.{Few}
use Rattle.laws.specs.Tables.{Allowed}
use Rattle.laws.proofs.Leaders.{LowerLeaders, heeds_still, heeds_nothing}
use Rattle.laws.proofs.Blocks as blocks
use Rattle.theorems.specs.BlockPlans.{InBlocks}
use Rattle.theorems.proofs.Entries.{nothing_is, limit_is, table_fit}
use Rattle.theorems.proofs.BlockLists as lists
use Rattle.theorems.proofs.Programmes.{Begins, reduced_begins}
use Rattle.theorems.proofs.Programmes as programmes

-- ---- the front of one list and the rest of another

module _ (xs ys : List ℕ) (n : ℕ) (h : n ≤ length xs) where
  front : (k : ℕ) → k < n → get_or (take n xs ++ drop n ys) k 0 ≡ get_or xs k 0
  front k l = get_or-append (take n xs) (drop n ys) 0 k (omega (arith, length-take-le n xs h)) ∙ get_or-take n xs k 0 l

  rest : (k : ℕ) → n ≤ k → get_or (take n xs ++ drop n ys) k 0 ≡ get_or ys k 0
  rest k l =
      let e : k ≡ length (take n xs) + (k - n) = omega (arith, length-take-le n xs h) in
      let f : n + (k - n) ≡ k = omega arith in
      ap (λ (m : ℕ). get_or (take n xs ++ drop n ys) m 0) e
      ∙ get_or-append-add (take n xs) (drop n ys) (k - n) 0
      ∙ get_or-drop n ys (k - n) 0
      ∙ ap (λ (m : ℕ). get_or ys m 0) f

  whole : length xs ≡ length ys → length (take n xs ++ drop n ys) ≡ length xs
  whole e = omega (arith, length-append (take n xs) (drop n ys), length-take-le n xs h, length-drop n ys)

module _ (x : Choice) (d : District) (few : Few d) (ok : followed x d ≡ true) where
  abbrev m : ℕ
  m = blocks_in x d

  abbrev t : Table
  t = table_of d

  -- ---- the lists of the first b blocks, joined

  joined_length : (b : ℕ) → b ≤ m → length (joined x d b) ≡ most_segments
  unfolding joined
  joined_length zero h = refl
  joined_length (suc b) h =
      let n = joined_length b (omega arith) in
      whole (joined x d b) (block_list x d (suc b)) (end_of x d b) (omega (arith, blocks.end_le x d ok b (omega arith), few.segments))
      (n ∙ sym (lists.list_candidates x d few (suc b)).places)
      ∙ n

  -- with one block more
  module _ (b : ℕ) (h : suc b ≤ m) where
    room : end_of x d b ≤ length (joined x d b)
    room = omega (arith, joined_length b (omega arith), blocks.end_le x d ok b (omega arith), few.segments)

    -- the segments of earlier blocks are as they were, and the others have what the list of block b + 1 says
    joined_front : (i : ℕ) → 1 ≤ i → i ≤ end_of x d b → strategy_at (joined x d (suc b)) i ≡ strategy_at (joined x d b) i
    unfolding joined
    joined_front i l k = front (joined x d b) (block_list x d (suc b)) (end_of x d b) room (i - 1) (omega arith)

    joined_rest : (i : ℕ) → end_of x d b < i → strategy_at (joined x d (suc b)) i ≡ strategy_at (block_list x d (suc b)) i
    unfolding joined
    joined_rest i k = rest (joined x d b) (block_list x d (suc b)) (end_of x d b) room (i - 1) (omega arith)

    by_end : {P : Type 0} (i : ℕ) → (i ≤ end_of x d b → P) → (end_of x d b < i → P) → P
    by_end i low high = ⊎_elim high low (cases_lt (end_of x d b) i)

    fits : (r : ℕ) → 1 ≤ r → r ≤ resources_of d → part_of x d (suc b) r ≤ limit_of d r
    fits = blocks.part_le x d ok (suc b) (omega arith) h

    none_there : (i : ℕ) → 1 ≤ i → in_block x d (suc b) i ≡ false → strategy_at (block_list x d (suc b)) i ≡ 0
    none_there = lists.list_none x d few (suc b) fits

  -- past the b blocks there is nothing
  joined_past : (b : ℕ) → b ≤ m → (i : ℕ) → 1 ≤ i → end_of x d b < i → strategy_at (joined x d b) i ≡ 0
  unfolding joined
  joined_past zero h i l k = each_replicate (λ (v : ℕ). v ≡ 0) 0 most_segments 0 refl refl (i - 1)
  joined_past (suc b) h i l k =
      joined_rest b h i (omega (arith, blocks.end_more x d ok b h)) ∙ none_there b h i l (blocks.out_high x d ok b i h k)

  joined_allowed : (b : ℕ) → b ≤ m → (i : ℕ) → 1 ≤ i → i ≤ segments_of d → Allowed t i (strategy_at (joined x d b) i)
  unfolding end_of
  joined_allowed zero h i l u = inl (joined_past 0 h i l (omega arith))
  joined_allowed (suc b) h i l u =
      by_end b h i
      (λ low. rw (joined_front b h i l low) (joined_allowed b (omega arith) i l u))
      (λ high. rw (joined_rest b h i high) (lists.list_allowed x d few (suc b) (fits b h) i l u))

  -- the leader of a segment in block b + 1 is there too
  led_there : (b i : ℕ) → suc b ≤ m → 1 ≤ i → i ≤ segments_of d → in_block x d (suc b) i ≡ true → 1 ≤ leader_of d i → end_of x d b < leader_of d i
  unfolding led_inside leaders_inside
  led_there b i h l u q led =
      ⊎_elim (λ z. absurd (omega (arith, eqb-true (leader_of d i) 0 z))) (λ there. (blocks.in_from x d ok b (leader_of d i) h there).0)
      (or_cases (eqb (leader_of d i) 0) (in_block x d (suc b) (leader_of d i))
      (rw q at (all_at (segments_of d) (led_inside x d (suc b)) (all_at m (leaders_inside x d) (blocks.tests x d ok).3 (suc b) (omega arith) h) i l u)))

  joined_heeds : LowerLeaders (leader_of d) (segments_of d) → (b : ℕ) → b ≤ m → (i : ℕ) → 1 ≤ i → i ≤ segments_of d → heeds (leader_of d) (strategy_at (joined x d b)) i ≡ true
  unfolding end_of
  joined_heeds lower zero h i l u = heeds_nothing (leader_of d) (strategy_at (joined x d 0)) i (joined_past 0 h i l (omega arith))
  joined_heeds lower (suc b) h i l u =
      by_end b h i
      (λ low.
      let below = lower i l u in
      heeds_still (leader_of d) (strategy_at (joined x d b)) (strategy_at (joined x d (suc b))) i (sym (joined_front b h i l low))
      (λ led. sym (joined_front b h (leader_of d i) led (omega arith))) (joined_heeds lower b (omega arith) i l u))
      (λ high. here high (in_block x d (suc b) i) refl)
    where
      here : end_of x d b < i → (v : Bool) → in_block x d (suc b) i ≡ v → heeds (leader_of d) (strategy_at (joined x d (suc b))) i ≡ true
      here high false q = heeds_nothing (leader_of d) (strategy_at (joined x d (suc b))) i (joined_rest b h i high ∙ none_there b h i l q)
      here high true q =
          heeds_still (leader_of d) (strategy_at (block_list x d (suc b))) (strategy_at (joined x d (suc b))) i (sym (joined_rest b h i high))
          (λ led. sym (joined_rest b h (leader_of d i) (led_there b i h l u q led))) (lists.list_heeds x d few (suc b) lower i l u)

  -- a sum over the segments is that of the blocks
  joined_sum :
      (g : ℕ → ℕ → ℕ) → ((i : ℕ) → 1 ≤ i → i ≤ segments_of d → g i 0 ≡ 0) → (b : ℕ) → b ≤ m
      → sum (segments_of d) (λ i. g i (strategy_at (joined x d b) i)) ≡ sum b (λ k. sum (segments_of d) (λ i. g i (strategy_at (block_list x d k) i)))
  unfolding sum end_of
  joined_sum g none zero h =
      sum_cong (segments_of d) (λ i. g i (strategy_at (joined x d 0) i)) (λ _. 0) (λ i l u. ap (g i) (joined_past 0 h i l (omega arith)) ∙ none i l u) ∙ sum_zero (segments_of d)
  joined_sum g none (suc b) h =
      let old = λ (i : ℕ). g i (strategy_at (joined x d b) i) in
      let new = λ (i : ℕ). g i (strategy_at (block_list x d (suc b)) i) in
      sum_cong (segments_of d) (λ i. g i (strategy_at (joined x d (suc b)) i)) (λ i. old i + new i)
      (λ i l u.
      by_end b h i
      (λ low.
      let z = ap (g i) (none_there b h i l (blocks.out_low x d ok b i h low)) ∙ none i l u in
      let y = ap (g i) (joined_front b h i l low) in
      omega arith)
      (λ high.
      let z = ap (g i) (joined_past b (omega arith) i l high) ∙ none i l u in
      let y = ap (g i) (joined_rest b h i high) in
      omega arith))
      ∙ sum_add (segments_of d) old new
      ∙ ap (λ (n : ℕ). n + sum (segments_of d) new) (joined_sum g none b (omega arith))

  -- ---- so phases 2 and 3 can go on from them

  joined_used : (r : ℕ) → 1 ≤ r → r ≤ resources_of d → used t (joined x d m) r ≤ t.limit r
  unfolding used chosen_usage scaled_limit part_in table_of
  joined_used r lr hr =
      omega (
        arith,
        joined_sum (λ i j. t.usage i j r) (λ i l h. (table_fit d few.segments).nothing_uses i r l h lr hr) m (omega arith),
        sum_le m (λ k. sum (segments_of d) (λ i. t.usage i (strategy_at (block_list x d k) i) r)) (λ k. part_in x d r k * 100_000)
            (λ k lk hk. lists.list_used x d few k (blocks.part_le x d ok k lk hk) r lr hr),
        sum_mul_right m 100_000 (part_in x d r),
        blocks.parts_le x d ok r lr hr,
        limit_is d r lr hr,
      )

  pub joined_begins : Begins t (leader_of d) (by_blocks x d)
  unfolding by_blocks within holds respects table_of
  joined_begins =
      record {
        candidates = record { places = joined_length m (omega arith); each = joined_allowed m (omega arith) };
        within = all_true (resources_of d) (holds t (joined x d m)) (λ r lr hr. le-leb (used t (joined x d m) r) (t.limit r) (joined_used r lr hr));
        respects = λ lower. all_true (segments_of d) (heeds (leader_of d) (strategy_at (joined x d m))) (joined_heeds lower m (omega arith));
        past = λ no_benefit i l past. joined_past m (omega arith) i l (omega (arith, blocks.end_all x d ok));
      }

  -- with the total of the blocks, which phases 2 and 3 do not lower
  joined_total : total t (joined x d m) ≡ sum m (block_total x d)
  unfolding total chosen_benefit table_of
  joined_total =
      joined_sum (λ i j. t.benefit i j) (λ i l h. nothing_is d i l h) m (omega arith)
      ∙ sum_cong m (λ k. sum (segments_of d) (λ i. t.benefit i (strategy_at (block_list x d k) i))) (block_total x d)
      (λ k lk hk. lists.list_total x d few k (blocks.part_le x d ok k lk hk))

  total_ge : sum m (block_total x d) ≤ total t (improved t (leader_of d) (by_blocks x d)).last
  unfolding by_blocks
  total_ge = rw (← joined_total) (programmes.total_rises t (leader_of d) (table_fit d few.segments) (by_blocks x d) joined_begins)

  -- ---- steps: each segment is in one block

  abbrev steps_for : ℕ → ℕ → ℕ
  steps_for i b = pick (not (in_block x d b i)) 0 (strategies_of d)

  none_yet : (i b : ℕ) → b ≤ m → end_of x d b < i → sum b (steps_for i) ≡ 0
  unfolding sum
  none_yet i zero h past = refl
  none_yet i (suc b) h past =
      let z : steps_for i (suc b) ≡ 0 = rw (blocks.out_high x d ok b i h past) in
      omega (arith, none_yet i b (omega arith) (omega (arith, blocks.end_more x d ok b h)))

  in_one : (i b : ℕ) → b ≤ m → sum b (steps_for i) ≤ strategies_of d
  unfolding sum
  in_one i zero h = omega arith
  in_one i (suc b) h =
      by_end b h i
      (λ low. let z : steps_for i (suc b) ≡ 0 = rw (blocks.out_low x d ok b i h low) in omega (arith, in_one i b (omega arith)))
      (λ high.
      omega (
        arith,
        none_yet i b (omega arith) high,
        pick_all (λ (k : ℕ). k ≤ strategies_of d) (not (in_block x d (suc b) i)) 0 (strategies_of d) (omega arith) (omega arith),
      ))

  steps_le : sum m (block_steps x d) ≤ segments_of d * strategies_of d
  steps_le =
      omega (
        arith,
        sum_le m (block_steps x d) (λ b. sum (segments_of d) (λ i. steps_for i b))
            (λ b lb hb. lists.block_steps_le x d few b (blocks.part_le x d ok b lb hb)),
        sum_swap m (segments_of d) (λ b i. steps_for i b),
        sum_bound (segments_of d) (strategies_of d) (λ i. sum m (steps_for i)) (λ i l h. in_one i m (omega arith)),
      )

-- ---- however phase 1 goes

module _ (x : Choice) (d : District) (few : Few d) where
  pub begun_begins : Begins (table_of d) (leader_of d) (begun x d)
  unfolding begun
  begun_begins =
      pick_by (Begins (table_of d) (leader_of d)) (followed x d) (by_blocks x d) (reduced (table_of d) (leader_of d)) (joined_begins x d few)
      (reduced_begins (table_of d) (leader_of d) (table_fit d few.segments))

  begun_few : (begun x d).count ≤ segments_of d * strategies_of d
  unfolding begun by_blocks table_of
  begun_few =
      pick_by (λ (r : Run (List ℕ)). r.count ≤ segments_of d * strategies_of d) (followed x d) (by_blocks x d) (reduced (table_of d) (leader_of d)) (steps_le x d few)
      (programmes.few_steps (table_of d) (leader_of d) (table_fit d few.segments))

  pub in_blocks : InBlocks x d (programme_by x d)
  unfolding programme_by programme_from
  in_blocks =
      record {
        total = λ ok. rw (blocks.begun_by x d ok) (total_ge x d few ok);
        steps = omega (arith, begun_few, mul-le-mul few.segments few.strategies);
      }
