-- Laws of the search for changes: what raises nothing is no change, and how the nested loops find the first.
use Prim.Native.Nat.{ℕ, zero, suc, ◌+◌, ◌^◌, ◌≤◌, ◌<◌}
use mathlib.Core.Path.{◌≡◌, refl, sym, ap, ◌∙◌}
use mathlib.Core.Bool.{Bool, true, false, ◌&&◌, and-false, or-true}
use mathlib.Core.List.{List}
use Rattle.std.specs.Prelude.{Option, None, Some, MatchOption, option_map}
use native.Mathlib.Omega.{arith}
use borrow.Author.Tests.{lt-ltb, le-ltb, ltb-false, ne_eqb}
use lib.Dec.{ltb, eqb}
use lib.ListN.{length, length-set}
use Rattle.base.specs.Choice.{pick}
use Rattle.base.specs.Over.{most}
use Rattle.base.specs.Search.{or_else}
use Rattle.base.proofs.Sums.{most_part, most_bound}
use Rattle.base.proofs.Runs.{Reached, reached_start, reached_next, reached_end}
use Rattle.base.proofs.Search.{first_none, first_found}
use Rattle.rules.specs.Table.{Table}
use Rattle.rules.specs.Phases.{
  strategy_at,
  give,
  is_candidate,
  chosen_benefit,
  total,
  chosen_usage,
  used,
  within,
  bests,
  respects,
  another,
  counts,
  single,
  pair,
  first_strategy,
  singles_of,
  first_single,
  pairs_with,
  pairs_of,
  pairs_from,
  first_pair,
  change,
  phase3,
}
use Rattle.laws.proofs.Changes.{change_rises, change_numbers, total_most}
use Rattle.laws.proofs.Give.{kept, total_give, used_give, within_less}
use Rattle.tables.specs.declared.Size.{Size}
use Rattle.tables.specs.Arrays.{benefit_at, tables, Benefits, Running}
use Rattle.tables.proofs.Arrays.{benefit_nothing, benefit_lt, total_le}
use Rattle.phase3.specs.Improve.{after, Found, counts_one, counts_two, top, present, pair_may_rise}
use Rattle.phase3.specs.declared.change.Change.{Change}
use Rattle.phase3.specs.declared.change.Change.TheVariants.{One}

-- ---- whether the total rises, by the benefits of the segments that change

module _ (t : Table) (leader : ℕ → ℕ) (c : List ℕ) (i a : ℕ) (low : 1 ≤ i) (high : i ≤ t.segments) (room : t.segments ≤ length c) where
  total_one : total t (give c i a) + t.benefit i (strategy_at c i) ≡ total t c + t.benefit i a
  unfolding chosen_benefit
  total_one = total_give t c i a low high room

  pub low_one : t.benefit i a ≤ t.benefit i (strategy_at c i) → counts_one t leader c i a ≡ false
  unfolding counts
  low_one h = rw (le-ltb (total t c) (total t (give c i a)) (omega (arith, total_one))) (and-false (another t c i a))

  -- a strategy of greater benefit is another one, and a candidate
  another_one : t.benefit i (strategy_at c i) < t.benefit i a → another t c i a ≡ true
  unfolding another is_candidate
  another_one h =
      let ne : a ≡ strategy_at c i → ⊥ = λ e. let q : t.benefit i a ≡ t.benefit i (strategy_at c i) = ap (t.benefit i) e in omega arith in
      rw (ne_eqb a (strategy_at c i) ne, lt-ltb 0 (t.benefit i a) (omega arith)) (or-true (eqb a 0))

  pub high_one : t.benefit i (strategy_at c i) < t.benefit i a → (fits : Bool) → within t (give c i a) ≡ fits
      → counts_one t leader c i a ≡ (fits && respects leader t.segments (give c i a))
  unfolding counts
  high_one h fits e = rw (another_one h, lt-ltb (total t c) (total t (give c i a)) (omega (arith, total_one)), e)

  -- a second segment
  module _ (k b : ℕ) (above : i < k) (top-k : k ≤ t.segments) where
    total_two : total t (give (give c i a) k b) + (t.benefit i (strategy_at c i) + t.benefit k (strategy_at c k)) ≡ total t c + (t.benefit i a + t.benefit k b)
    unfolding chosen_benefit
    total_two =
        let wide : t.segments ≤ length (give c i a) = simp length-set room in
        let second = total_give t (give c i a) k b (omega arith) top-k wide in
        let same : t.benefit k (strategy_at (give c i a) k) ≡ t.benefit k (strategy_at c k) = ap (t.benefit k) (kept c i a k low (omega arith) (λ e. omega arith)) in
        omega (arith, total_one)

    pub low_two : t.benefit i a + t.benefit k b ≤ t.benefit i (strategy_at c i) + t.benefit k (strategy_at c k) → counts_two t leader c i k a b ≡ false
    unfolding counts
    low_two h =
        rw (le-ltb (total t c) (total t (give (give c i a) k b)) (omega (arith, total_two)), and-false (another t c k b)) (and-false (another t c i a))

    pub high_two : t.benefit i (strategy_at c i) + t.benefit k (strategy_at c k) < t.benefit i a + t.benefit k b → another t c i a ≡ true → another t c k b ≡ true
        → within t (give (give c i a) k b) ≡ true → counts_two t leader c i k a b ≡ respects leader t.segments (give (give c i a) k b)
    unfolding counts
    high_two h ei ek fit = rw (ei, ek, lt-ltb (total t c) (total t (give (give c i a) k b)) (omega (arith, total_two)), fit)

not_first : (t : Table) (leader : ℕ → ℕ) (c : List ℕ) (i k a b : ℕ) → another t c i a ≡ false → counts_two t leader c i k a b ≡ false
not_first t leader c i k a b e = rw e

pub not_second : (t : Table) (leader : ℕ → ℕ) (c : List ℕ) (i k a b : ℕ) → another t c k b ≡ false → counts_two t leader c i k a b ≡ false
not_second t leader c i k a b e = rw e (and-false (another t c i a))

pub over_two : (t : Table) (leader : ℕ → ℕ) (c : List ℕ) (i k a b : ℕ) → within t (give (give c i a) k b) ≡ false → counts_two t leader c i k a b ≡ false
unfolding counts
over_two t leader c i k a b e =
    rw (e, and-false (ltb (total t c) (total t (give (give c i a) k b))), and-false (another t c k b)) (and-false (another t c i a))

-- ---- the nested searches, as the loops go through them

module _ (t : Table) where
  strategy_none : (f : ℕ → Option (List ℕ)) → ((a : ℕ) → a < t.strategies + 1 → f a ≡ None) → first_strategy t f ≡ None
  unfolding first_strategy
  strategy_none f h = rw (h 0 (omega arith)) (first_none t.strategies f (λ a l u. h a (omega arith)))

  strategy_found : (f : ℕ → Option (List ℕ)) (a : ℕ) (e : List ℕ) → a < t.strategies + 1 → ((v : ℕ) → v < a → f v ≡ None) → f a ≡ Some e → first_strategy t f ≡ Some e
  unfolding first_strategy
  strategy_found f zero e l before q = rw q
  strategy_found f (suc a) e l before q =
      rw (before 0 (omega arith)) (first_found t.strategies f (suc a) e (omega arith) (omega arith) (λ v lv u. before v u) q)

  module _ (leader : ℕ → ℕ) (c : List ℕ) where
    single_none : (i a : ℕ) → counts_one t leader c i a ≡ false → single t leader c i a ≡ None
    unfolding single
    single_none i a e = rw e

    pub singles_none : (i : ℕ) → ((a : ℕ) → a < t.strategies + 1 → single t leader c i a ≡ None) → singles_of t leader c i ≡ None
    unfolding singles_of
    singles_none i h = strategy_none (single t leader c i) h

    pub singles_end : ((i : ℕ) → i < t.segments + 1 → 1 ≤ i → singles_of t leader c i ≡ None) → first_single t leader c ≡ None
    unfolding first_single
    singles_end h = first_none t.segments (singles_of t leader c) (λ i l u. h i (omega arith) l)

    pub singles_found : (i a : ℕ) → a < t.strategies + 1 → ((v : ℕ) → v < a → single t leader c i v ≡ None) → counts_one t leader c i a ≡ true → singles_of t leader c i ≡ Some (give c i a)
    unfolding singles_of single
    singles_found i a la none-a e = strategy_found (single t leader c i) a (give c i a) la none-a (rw e)

    pub single_found : (i : ℕ) (d : List ℕ) → 1 ≤ i → i < t.segments + 1 → ((p : ℕ) → p < i → 1 ≤ p → singles_of t leader c p ≡ None)
        → singles_of t leader c i ≡ Some d → first_single t leader c ≡ Some d
    unfolding first_single
    single_found i d l h before e = first_found t.segments (singles_of t leader c) i d l (omega arith) (λ p lp u. before p u lp) e

    pub pair_none : (i k a b : ℕ) → counts_two t leader c i k a b ≡ false → pair t leader c i k a b ≡ None
    unfolding pair
    pair_none i k a b e = rw e

    pub with_none : (i k a : ℕ) → ((b : ℕ) → b < t.strategies + 1 → pair t leader c i k a b ≡ None) → pairs_with t leader c i k a ≡ None
    unfolding pairs_with
    with_none i k a h = strategy_none (pair t leader c i k a) h

    pub of_none : (i k : ℕ) → ((a : ℕ) → a < t.strategies + 1 → pairs_with t leader c i k a ≡ None) → pairs_of t leader c i k ≡ None
    unfolding pairs_of
    of_none i k h = same (ltb i k) (first_strategy t (pairs_with t leader c i k)) (strategy_none (pairs_with t leader c i k) h)
      where
        same : (x : Bool) (o : Option (List ℕ)) → o ≡ None → pick x o None ≡ None
        same true o e = e
        same false o e = refl

    pub of_low : (i k : ℕ) → k < i + 1 → pairs_of t leader c i k ≡ None
    unfolding pairs_of
    of_low i k l = rw (le-ltb i k (omega arith))

    pub from_none : (i : ℕ) → ((k : ℕ) → k < t.segments + 1 → 1 ≤ k → pairs_of t leader c i k ≡ None) → pairs_from t leader c i ≡ None
    unfolding pairs_from
    from_none i h = first_none t.segments (pairs_of t leader c i) (λ k l u. h k (omega arith) l)

    pub pairs_end : ((i : ℕ) → i < t.segments + 1 → 1 ≤ i → pairs_from t leader c i ≡ None) → first_pair t leader c ≡ None
    unfolding first_pair
    pairs_end h = first_none t.segments (pairs_from t leader c) (λ i l u. h i (omega arith) l)

    pub of_found : (i k a b : ℕ) → i < k
        → a < t.strategies + 1 → ((v : ℕ) → v < a → pairs_with t leader c i k v ≡ None)
        → b < t.strategies + 1 → ((v : ℕ) → v < b → pair t leader c i k a v ≡ None)
        → counts_two t leader c i k a b ≡ true → pairs_of t leader c i k ≡ Some (give (give c i a) k b)
    unfolding pairs_of pairs_with pair
    of_found i k a b ik la none-a lb none-b e =
        let d = give (give c i a) k b in
        rw (lt-ltb i k ik)
        (strategy_found (pairs_with t leader c i k) a d la none-a (strategy_found (pair t leader c i k a) b d lb none-b (rw e)))

    pub pair_found : (i k : ℕ) (d : List ℕ) → 1 ≤ i → i < k → k ≤ t.segments
        → ((p : ℕ) → p < i → 1 ≤ p → pairs_from t leader c p ≡ None) → ((p : ℕ) → p < k → 1 ≤ p → pairs_of t leader c i p ≡ None)
        → pairs_of t leader c i k ≡ Some d → first_pair t leader c ≡ Some d
    unfolding first_pair pairs_from
    pair_found i k d li ik hk none-i none-k e =
        first_found t.segments (pairs_from t leader c) i d li (omega arith) (λ p lp u. none-i p u lp)
        (first_found t.segments (pairs_of t leader c i) k d (omega arith) hk (λ p lp u. none-k p u lp) e)

-- ---- what cannot rise is passed over

-- without this no change that gives segment i strategy a counts
abbrev pub with_may_count : Table → List ℕ → ℕ → ℕ → ℕ → Bool
with_may_count t c i k a =
    another t c i a && (ltb (present t c i k) (t.benefit i a + top t k) && within t (give (give c i a) k 0))

module _ (t : Table) (leader : ℕ → ℕ) (c : List ℕ) (room : t.segments ≤ length c) (i k : ℕ) (low : 1 ≤ i) (above : i < k) (high : k ≤ t.segments) where
  pub low_pair : (a b : ℕ) → t.benefit i a + t.benefit k b ≤ present t c i k → pair t leader c i k a b ≡ None
  low_pair a b h = pair_none t leader c i k a b (low_two t leader c i a low (omega arith) room k b above high h)

  module _ (worthless : (i : ℕ) → t.benefit i 0 ≡ 0) where
    top_ge : (i j : ℕ) → j < t.strategies + 1 → t.benefit i j ≤ top t i
    top_ge i zero h = omega (arith, worthless i)
    top_ge i (suc j) h = most_part t.strategies (t.benefit i) (suc j) (omega arith) (omega arith)

    pub no_of : pair_may_rise t c i k ≡ false → pairs_of t leader c i k ≡ None
    no_of e =
        let no_more = ltb-false (present t c i k) (top t i + top t k) e in
        of_none t leader c i k (λ a la. with_none t leader c i k a (λ b lb. low_pair a b (omega (arith, top_ge i a la, top_ge k b lb))))

    module _ (cost : (i r : ℕ) → t.usage i 0 r ≡ 0) (a : ℕ) where
      -- what does not fit beside nothing fits beside no strategy
      not_within : (b : ℕ) → within t (give (give c i a) k 0) ≡ false → within t (give (give c i a) k b) ≡ false
      unfolding chosen_usage
      not_within b e = go (within t (give (give c i a) k b)) refl
        where
          wide : t.segments ≤ length (give c i a)
          wide = simp length-set room

          less : (r : ℕ) → used t (give (give c i a) k 0) r ≤ used t (give (give c i a) k b) r
          less r =
              omega (
                arith,
                used_give t (give c i a) k 0 (omega arith) high wide r,
                used_give t (give c i a) k b (omega arith) high wide r,
                cost k r,
              )

          go : (x : Bool) → within t (give (give c i a) k b) ≡ x → x ≡ false
          go false q = refl
          go true q = sym (within_less t (give (give c i a) k b) (give (give c i a) k 0) less q) ∙ e

      pub no_with : with_may_count t c i k a ≡ false → pairs_with t leader c i k a ≡ None
      no_with e = with_none t leader c i k a (λ b lb. go b lb (another t c i a) refl (ltb (present t c i k) (t.benefit i a + top t k)) refl)
        where
          go : (b : ℕ) → b < t.strategies + 1 → (x : Bool) → another t c i a ≡ x → (y : Bool) → ltb (present t c i k) (t.benefit i a + top t k) ≡ y → pair t leader c i k a b ≡ None
          go b lb false q y qy = pair_none t leader c i k a b (not_first t leader c i k a b q)
          go b lb true q false qy = low_pair a b (omega (arith, ltb-false (present t c i k) (t.benefit i a + top t k) qy, top_ge k b lb))
          go b lb true q true qy = pair_none t leader c i k a b (over_two t leader c i k a b (not_within b (rw (q, qy) at e)))

-- the test of a first strategy, step by step
module _ (t : Table) (c : List ℕ) (i k a : ℕ) where
  pub not_another : another t c i a ≡ false → with_may_count t c i k a ≡ false
  not_another e = rw e

  pub not_more : t.benefit i a + top t k ≤ present t c i k → with_may_count t c i k a ≡ false
  not_more h = rw (le-ltb (present t c i k) (t.benefit i a + top t k) h) (and-false (another t c i a))

  pub not_fits : within t (give (give c i a) k 0) ≡ false → with_may_count t c i k a ≡ false
  not_fits e = rw (e, and-false (ltb (present t c i k) (t.benefit i a + top t k))) (and-false (another t c i a))

pub top_le : (s : ℕ) {b : List ℕ} → Benefits b → (i : ℕ) → most s (benefit_at b i) ≤ 2 ^ 40
top_le s {b} g i = most_bound s (2 ^ 40) (benefit_at b i) (λ j l h. let lt = benefit_lt g i j in omega arith)

-- ---- what the loop of changes keeps

-- programme c after m changes from c₀
pub record Under (z : Size) (leader : ℕ → ℕ) (b u l c₀ c sums : List ℕ) (m : ℕ) : Type 0 where
  pub running : Running z u c sums
  pub reached : Reached (change (tables z b u l) leader) (total (tables z b u l) (bests (tables z b u l))) c₀ c m
  pub risen : m + total (tables z b u l) c₀ ≤ total (tables z b u l) c

pub under_start : {z : Size} (leader : ℕ → ℕ) (b u l : List ℕ) {c sums : List ℕ} → Running z u c sums → Under z leader b u l c c sums 0
under_start {z} leader b u l {c} running =
    record {
      running = running;
      reached = reached_start (change (tables z b u l) leader) (total (tables z b u l) (bests (tables z b u l))) c;
      risen = omega arith;
    }

module _ {z : Size} {leader : ℕ → ℕ} {b u l c₀ c sums : List ℕ} {m : ℕ} (under : Under z leader b u l c₀ c sums m) where
  abbrev t : Table
  t = tables z b u l

  pub under_end : change t leader c ≡ None → (c ≡ (phase3 t leader c₀).last) × (m ≡ (phase3 t leader c₀).count)
  unfolding phase3
  under_end e =
      let ended = reached_end (change t leader) (total t (bests t)) c₀ c m under.reached e in
      (sym ended.0, sym ended.1)

  module _ {e : List ℕ} (q : change t leader c ≡ Some e) where
    -- each change raises the total, which bounds them
    under_less : m + 1 ≤ total t (bests t)
    under_less =
        let rise = change_rises t leader c e q in
        let most = total_most t (benefit_nothing b) e under.running.bounded.segments (change_numbers t leader c e q under.running.chosen.numbers) in
        omega (arith, under.risen)

    pub under_small : Benefits b → m + 1 ≤ 2 ^ 46
    under_small benefits = omega (arith, under_less, total_le under.running.bounded benefits u l (bests t))

    pub under_next : {c₂ sums₂ : List ℕ} → Running z u c₂ sums₂ → c₂ ≡ e → Under z leader b u l c₀ c₂ sums₂ (m + 1)
    under_next running same =
        let rise = change_rises t leader c e q in
        let more : m + 1 + total t c₀ ≤ total t e = omega (arith, under.risen) in
        record {
          running = running;
          reached = rw same (reached_next (change t leader) (total t (bests t)) c₀ c e m under.reached (omega (arith, under_less)) q);
          risen = rw same more;
        }

-- ---- the code's own changes

-- the first change of segment i alone
module _ (t : Table) (leader : ℕ → ℕ) {z : Size} {c : List ℕ} (i : ℕ) where
  pub first_is : 1 ≤ i → i ≤ z.segments → t.strategies ≡ z.strategies → (o : Option ℕ)
      → MatchOption o ((v : ℕ) → 0 ≤ v → v < t.strategies + 1 → counts_one t leader c i v ≡ false)
      (λ a. (0 ≤ a) × (a < t.strategies + 1) × (counts_one t leader c i a ≡ true) × ((v : ℕ) → 0 ≤ v → v < a → counts_one t leader c i v ≡ false))
      → Found z c (option_map (λ a. One (record { 0 = i; 1 = a })) o) (singles_of t leader c i)
  first_is low high same None h =
      record { is = sym (singles_none t leader c i (λ v lv. single_none t leader c i v (h v (omega arith) lv))); inside = tt }
  first_is low high same (Some a) h =
      record {
        is = sym (singles_found t leader c i a h.1 (λ v lv. single_none t leader c i v (h.3 v (omega arith) lv)) h.2);
        inside = (low, high, omega (arith, h.1, same));
      }

-- the first of all segments, where each finds its own
pub first_single_is : (t : Table) (leader : ℕ → ℕ) {z : Size} {c : List ℕ} (r : Option Change)
    → MatchOption r ((i : ℕ) → 1 ≤ i → i < t.segments + 1 → singles_of t leader c i ≡ None)
    (λ x. (i : ℕ) × (1 ≤ i) × (i < t.segments + 1) × Found z c (Some x) (singles_of t leader c i) × ((v : ℕ) → 1 ≤ v → v < i → singles_of t leader c v ≡ None))
    → Found z c r (first_single t leader c)
first_single_is t leader {c = c} None h = record { is = sym (singles_end t leader c (λ i hi lo. h i lo hi)); inside = tt }
first_single_is t leader {c = c} (Some x) h =
    record { is = sym (single_found t leader c h.0 (after c x) h.1 h.2 (λ v lv low. h.4 v low lv) (sym h.3.is)); inside = h.3.inside }

-- single changes come before pairs
module _ (t : Table) (leader : ℕ → ℕ) {z : Size} {c : List ℕ} where
  pub change_single : {x : Change} → Found z c (Some x) (first_single t leader c) → Found z c (Some x) (change t leader c)
  unfolding change
  change_single one = record { is = ap (λ (o : Option (List ℕ)). or_else o (first_pair t leader c)) one.is; inside = one.inside }

  pub change_pair : Found z c None (first_single t leader c) → {x : Option Change} → Found z c x (first_pair t leader c) → Found z c x (change t leader c)
  unfolding change
  change_pair none pair =
      record { is = pair.is ∙ ap (λ (o : Option (List ℕ)). or_else o (first_pair t leader c)) none.is; inside = pair.inside }

  -- a pair that is found comes first where those before it are none
  pub found_pair : {x : Change} (i k : ℕ) → 1 ≤ i → i < k → k ≤ t.segments
      → ((p : ℕ) → p < i → 1 ≤ p → pairs_from t leader c p ≡ None) → ((p : ℕ) → p < k → 1 ≤ p → pairs_of t leader c i p ≡ None)
      → Found z c (Some x) (pairs_of t leader c i k) → Found z c (Some x) (first_pair t leader c)
  found_pair {x} i k li ik hk none-i none-k found =
      record { is = sym (pair_found t leader c i k (after c x) li ik hk none-i none-k (sym found.is)); inside = found.inside }
