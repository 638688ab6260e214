-- Laws of what phase 3 remembers: a row that goes down still holds, and what it refuses is refused of every tight programme.
use Prim.Native.Nat.{ℕ, ◌+◌, ◌-◌, ◌^◌, ◌≤◌, ◌<◌, min}
use mathlib.Core.Path.{◌≡◌, refl, sym, ap, ◌∙◌}
use mathlib.Core.Bool.{Bool, true, false, not}
use mathlib.Core.List.{List}
use Rattle.std.specs.Prelude.{Option, None, Some, MatchOption}
use native.Mathlib.Omega.{arith}
use borrow.Author.Count.{below_more}
use borrow.Author.Tests.{lt-leb, leb-false, eqb-true, eqb-false}
use lib.Dec.{eqb}
use lib.ListN.{get_or, length, length-set}
use lib.Seq.{get_or-set_same, get_or-set_other}
use Rattle.base.specs.Over.{all}
use Rattle.base.proofs.All.{all_true, all_fails}
use Rattle.rules.specs.District.{most_resources}
use Rattle.rules.specs.Table.{Table}
use Rattle.rules.specs.Phases.{strategy_at, give, chosen_usage, used, holds, within, respects, another, pair, pairs_of}
use Rattle.laws.proofs.Give.{set_all, kept, used_give}
use Rattle.tables.specs.declared.Size.{Size}
use Rattle.tables.specs.Arrays.{usage_at, limit_at, tables, Limits}
use Rattle.tables.specs.Moves.{room_for}
use Rattle.tables.proofs.Arrays.{limit_at_lem, usage_lt, usage_nothing, benefit_nothing}
use Rattle.tables.proofs.Moves.{places, two_fits}
use Rattle.phase3.specs.Improve.{top, present}
use Rattle.phase3.specs.declared.memory.Row.{Row}
use Rattle.phase3.specs.Memory.{
  offset,
  excess_of,
  lowered,
  IsShort,
  Lower,
  Tight,
  Alike,
  PassedWith,
  PassedPair,
  Holds,
  numbers,
  Setting,
  Searching,
  Refusal,
  WithTest,
  PairTest,
}
use Rattle.phase3.proofs.ChangeSearch.{with_may_count, high_two, not_second, over_two, pair_none, with_none, of_none, low_pair, no_with, not_another, not_more, not_fits}

-- ---- a row that goes down

lower_same : (row : Row) → Lower row row
lower_same row = record { places = refl; strategies = λ _ e. e; down = λ r. omega arith }

lower_lowered : (row : Row) (r v : ℕ) → Lower row (lowered row r v)
lower_lowered row r v =
    record {
      places = length-set row.excesses (r - 1) (min v (numbers row r));
      strategies = λ _ e. e;
      down = λ q. set_all (λ p x. x ≤ get_or row.excesses p 0) row.excesses (r - 1) (min v (numbers row r)) (omega arith) (λ p. omega arith) (q - 1);
    }

-- the strategies go
abbrev pub for_none : Row → Row
for_none row = record { holds_for = None; excesses = row.excesses }

drop_strategies : (row next : Row) → Lower row next → Lower row (for_none next)
drop_strategies row next lower = record { places = lower.places; strategies = λ s e. cc; down = lower.down }

-- ---- tight programmes

-- what is used after both segments' moves, of any table; tables has it of one held in arrays, with its sums, and for itself alone
used_both : (t : Table) (c : List ℕ) → t.segments ≤ length c → (i k : ℕ) → 1 ≤ i → i < k → k ≤ t.segments → (a b r : ℕ)
    → used t (give (give c i a) k b) r + (t.usage i (strategy_at c i) r + t.usage k (strategy_at c k) r) ≡ used t c r + (t.usage i a r + t.usage k b r)
unfolding chosen_usage
used_both t c room i k low above high a b r =
    let wide : t.segments ≤ length (give c i a) = simp length-set room in
    let second = used_give t (give c i a) k b (omega arith) high wide r in
    let same : t.usage k (strategy_at (give c i a) k) r ≡ t.usage k (strategy_at c k) r = ap (λ (j : ℕ). t.usage k j r) (kept c i a k low (omega arith) (λ e. omega arith)) in
    omega (arith, used_give t c i a low (omega arith) room r, second, same)

module _ {t : Table} {i k x y : ℕ} where
  tight_under : (row next : ℕ → ℕ) {c : List ℕ} → ((r : ℕ) → 1 ≤ r → r ≤ t.resources → next r ≤ row r) → Tight t i k x y next c → Tight t i k x y row c
  tight_under row next h tight =
      record {
        places = tight.places;
        first = tight.first;
        second = tight.second;
        short = λ r low high. omega (arith, h r low high, tight.short r low high);
      }

  -- one number that goes down to another that the slack does not reach
  tight_lowered : (row : Row) (r v : ℕ) {c : List ℕ} → 1 ≤ r → r ≤ t.resources → r - 1 < length row.excesses → t.limit r + offset < v + used t c r
      → Tight t i k x y (numbers row) c → Tight t i k x y (numbers (lowered row r v)) c
  tight_lowered row r v {c} lr hr inside h tight =
      record {
        places = tight.places;
        first = tight.first;
        second = tight.second;
        short = λ q low high. go q low high (eqb q r) refl;
      }
    where
      go : (q : ℕ) → 1 ≤ q → q ≤ t.resources → (b : Bool) → eqb q r ≡ b → t.limit q + offset < numbers (lowered row r v) q + used t c q
      go q low high true e =
          rw (eqb-true q r e, get_or-set_same row.excesses (r - 1) (min v (numbers row r)) 0 inside) (omega (arith, h, tight.short r lr hr))
      go q low high false e =
          let ne = eqb-false q r e in
          rw (get_or-set_other row.excesses (r - 1) (q - 1) (min v (numbers row r)) 0 (λ z. ne (omega arith))) (tight.short q low high)

  module _ (low : 1 ≤ i) (above : i < k) (high : k ≤ t.segments) where
    -- what has an excess of at least the row's number is refused
    tight_refuses : (row : ℕ → ℕ) (c : List ℕ) → Tight t i k x y row c → (a b r : ℕ) → 1 ≤ r → r ≤ t.resources
        → row r + (t.usage i x r + t.usage k y r) ≤ t.usage i a r + t.usage k b r + offset → within t (give (give c i a) k b) ≡ false
    unfolding within holds
    tight_refuses row c tight a b r lr hr excess =
        let ux : t.usage i (strategy_at c i) r ≡ t.usage i x r = ap (λ (j : ℕ). t.usage i j r) tight.first in
        let uy : t.usage k (strategy_at c k) r ≡ t.usage k y r = ap (λ (j : ℕ). t.usage k j r) tight.second in
        all_fails t.resources (holds t (give (give c i a) k b)) r lr hr
        (lt-leb (used t (give (give c i a) k b) r) (t.limit r) (omega (arith, ux, uy, used_both t c tight.places i k low above high a b r, tight.short r lr hr, excess)))

-- ---- tests of the limits

module _ {z : Size} {p u l c sums given : List ℕ} {i k : ℕ} (s : Setting z p u l c sums given i k) where
  abbrev t : Table
  t = tables z p u l

  abbrev x : ℕ
  x = strategy_at c i

  abbrev y : ℕ
  y = strategy_at c k

  -- what is given up stays below the offset
  pub given_le : (r : ℕ) → 1 ≤ r → r ≤ z.resources → get_or given (r - 1) 0 ≤ get_or l (r - 1) 0 + offset
  given_le r lr hr =
      omega (arith, s.budgets.each r lr hr, usage_lt s.running.uses i x r, usage_lt s.running.uses k y r)

  pub all_fit : (a b : ℕ) → all z.resources (room_for u sums given i a k b) ≡ true → within t (give (give c i a) k b) ≡ true
  all_fit a b e = sym (two_fits s.running i a s.low (omega (arith, s.above, s.high)) p l k b s.above s.high s.budgets) ∙ e

  module _ (a b : ℕ) (row : Row) (r : ℕ) (lr : 1 ≤ r) (hr : r ≤ z.resources) (wide : length row.excesses ≡ most_resources) (e : room_for u sums given i a k b r ≡ false) where
    abbrev v : ℕ
    v = excess_of u l given i a k b r

    -- the excess with what is given up
    excess_is : v + (usage_at u i x r + usage_at u k y r) ≡ usage_at u i a r + usage_at u k b r + offset
    excess_is =
        omega (arith, s.budgets.each r lr hr, usage_lt s.running.uses i x r, usage_lt s.running.uses k y r)

    over : limit_at l r + offset < v + used t c r
    unfolding room_for
    over =
        omega (
          arith,
          excess_is,
          leb-false (get_or sums (r - 1) 0 + (usage_at u i a r + usage_at u k b r)) (get_or given (r - 1) 0) e,
          s.budgets.each r lr hr,
          limit_at_lem l r lr (omega (arith, s.running.bounded.resources)),
          s.running.sums_are p l r lr hr,
        )

    pub refusal_short : Refusal t c i k a b row (lowered row r v) true
    refusal_short =
        let inside : r - 1 < length row.excesses = omega (arith, s.running.bounded.resources, wide) in
        let there : numbers (lowered row r v) r ≡ min v (numbers row r) = get_or-set_same row.excesses (r - 1) (min v (numbers row r)) 0 inside in
        record {
          lower = lower_lowered row r v;
          tight = λ q. tight_lowered row r v lr hr inside over q;
          short = λ _ d tight. tight_refuses s.low s.above s.high (numbers (lowered row r v)) d tight a b r lr hr (omega (arith, there, excess_is));
        }

  -- ---- a first strategy, and a pair, that are tested

  another_same : (e : List ℕ) (i a : ℕ) → strategy_at e i ≡ strategy_at c i → another t e i a ≡ another t c i a
  unfolding another
  another_same e i a q = rw q

  present_same : (e : List ℕ) → strategy_at e i ≡ x → strategy_at e k ≡ y → present t e i k ≡ present t c i k
  present_same e q₁ q₂ = rw (q₁, q₂)

  module _ (a : ℕ) (row : Row) where
    with_not : (next : Row) → Lower row next → (Tight t i k x y (numbers row) c → Tight t i k x y (numbers next) c)
        → ((e : List ℕ) → Tight t i k x y (numbers next) e → with_may_count t e i k a ≡ false) → WithTest t c i k a row next false
    with_not next lower tight h =
        record {
          lower = lower;
          tight = tight;
          other = λ q. cc;
          passed = λ _ leader e q. no_with t leader e q.tight.places i k s.low s.above s.high (benefit_nothing p) (usage_nothing u) a (h e q.tight);
        }

    pub with_same : another t c i a ≡ false → WithTest t c i k a row row false
    with_same e = with_not row (lower_same row) (λ q. q) (λ d q. not_another t d i k a (another_same d i a q.first ∙ e))

    pub with_low : t.benefit i a + top t k ≤ present t c i k → WithTest t c i k a row row false
    with_low h = with_not row (lower_same row) (λ q. q) (λ d q. not_more t d i k a (omega (arith, present_same d q.first q.second)))

    pub with_test : (next : Row) (refused : Bool) → another t c i a ≡ true → Refusal t c i k a 0 row next refused → (may : Bool) → may ≡ not refused → WithTest t c i k a row next may
    with_test next true e r may q = rw q (with_not next r.lower r.tight (λ d g. not_fits t d i k a (r.short refl d g)))
    with_test next false e r may q =
        rw q (record { lower = r.lower; tight = r.tight; other = λ _. e; passed = λ z. cc })

  module _ (leader : ℕ → ℕ) (a b : ℕ) (row : Row) where
    pair_not : (next : Row) → Lower row next → (Tight t i k x y (numbers row) c → Tight t i k x y (numbers next) c)
        → ((d : List ℕ) → Tight t i k x y (numbers next) d → pair t leader d i k a b ≡ None) → PairTest t leader c i k a b row next false
    pair_not next lower tight h =
        record { lower = lower; tight = tight; counted = λ q. cc; passed = λ _ d q. h d q.tight }

    pub pair_low : t.benefit i a + t.benefit k b ≤ present t c i k → PairTest t leader c i k a b row row false
    pair_low h =
        pair_not row (lower_same row) (λ q. q)
        (λ d q. low_pair t leader d q.places i k s.low s.above s.high a b (omega (arith, present_same d q.first q.second)))

    pub pair_same : another t c k b ≡ false → PairTest t leader c i k a b row row false
    pair_same e =
        pair_not row (lower_same row) (λ q. q)
        (λ d q. pair_none t leader d i k a b (not_second t leader d i k a b (another_same d k b q.second ∙ e)))

    pub pair_over : (next : Row) (refused : Bool) → Refusal t c i k a b row next refused → refused ≡ true → PairTest t leader c i k a b row next false
    pair_over next refused r e =
        pair_not next r.lower r.tight (λ d q. pair_none t leader d i k a b (over_two t leader d i k a b (r.short e d q)))

    -- leaders decide of a pair that fits, and of programme c alone: the row has lost its strategies
    pub pair_test : (next : Row) (refused : Bool) → Refusal t c i k a b row next refused → present t c i k < t.benefit i a + t.benefit k b → another t c i a ≡ true → another t c k b ≡ true
        → within t (give (give c i a) k b) ≡ true → (ok : Bool) → ok ≡ respects leader z.segments (give (give c i a) k b) → PairTest t leader c i k a b row (for_none next) ok
    pair_test next refused r h ei ek fit ok q =
        let known = high_two t leader c i a s.low (omega (arith, s.above, s.high)) (places s.running) k b s.above s.high h ei ek fit ∙ sym q in
        record {
          lower = drop_strategies row next r.lower;
          tight = r.tight;
          counted = λ e. (known ∙ e, refl);
          passed = λ e d g. rw (g.same refl) (pair_none t leader c i k a b (known ∙ e));
        }

-- ---- the search of two segments

module _ (t : Table) (leader : ℕ → ℕ) (c : List ℕ) (i k : ℕ) where
  still_none : {row next : Row} → Lower row next → row.holds_for ≡ None → next.holds_for ≡ None
  still_none {row} {next} lower e = go next.holds_for refl
    where
      go : (o : Option (ℕ × ℕ)) → next.holds_for ≡ o → next.holds_for ≡ None
      go None q = q
      go (Some s) q = let had = lower.strategies s q in cc

  alike_lower : {row next : Row} {d : List ℕ} → Lower row next → Alike t c i k next d → Alike t c i k row d
  alike_lower {row} {next} lower g =
      record {
        tight = tight_under (numbers row) (numbers next) (λ r _ _. lower.down r) g.tight;
        same = λ e. g.same (still_none lower e);
      }

  pub searching_lower : {row next : Row} {a : ℕ} → Lower row next
      → (Tight t i k (strategy_at c i) (strategy_at c k) (numbers row) c → Tight t i k (strategy_at c i) (strategy_at c k) (numbers next) c)
      → Searching t leader c i k row a → Searching t leader c i k next a
  searching_lower lower tight g =
      record {
        places = lower.places ∙ g.places;
        strategies = λ s e. g.strategies s (lower.strategies s e);
        tight = tight g.tight;
        before = λ v lv d q. g.before v lv d (alike_lower lower q);
      }

  pub passed_lower : {row next : Row} (a b : ℕ) → Lower row next → PassedPair t leader c i k row a b → PassedPair t leader c i k next a b
  passed_lower a b lower g d q = g d (alike_lower lower q)

  -- first strategy a is done with
  pub searching_next : {row : Row} {a : ℕ} → Searching t leader c i k row a → PassedWith t leader c i k row a → Searching t leader c i k row (a + 1)
  searching_next {row} {a} g h =
      record { places = g.places; strategies = g.strategies; tight = g.tight; before = below_more _ _ g.before h }

  pub passed_with : (row : Row) (a : ℕ) → ((b : ℕ) → b < t.strategies + 1 → PassedPair t leader c i k row a b) → PassedWith t leader c i k row a
  passed_with row a h d q = with_none t leader d i k a (λ b lb. h b lb d q)

  module _ {row : Row} {a : ℕ} (g : Searching t leader c i k row a) where
    pub alike : Alike t c i k row c
    alike = record { tight = g.tight; same = λ _. refl }

    pub unused_holds : row.holds_for ≡ None → Holds t leader i k row
    unused_holds e x y m = cc

    -- all of them are
    module _ (h : t.strategies + 1 ≤ a) where
      all_passed : (d : List ℕ) → Alike t c i k row d → pairs_of t leader d i k ≡ None
      all_passed d q = of_none t leader d i k (λ v lv. g.before v (omega arith) d q)

      pub searching_none : pairs_of t leader c i k ≡ None
      searching_none = all_passed c alike

      -- a row that still has its strategies holds for them
      pub searching_holds : Holds t leader i k row
      searching_holds x y e =
          let has : (x, y) ≡ (strategy_at c i, strategy_at c k) = g.strategies (x, y) e in
          let ex : x ≡ strategy_at c i = ap (λ (s : ℕ × ℕ). s.0) has in
          let ey : y ≡ strategy_at c k = ap (λ (s : ℕ × ℕ). s.1) has in
          rw (ex, ey) (λ d q. all_passed d (record { tight = q; same = λ z. cc }))

-- a row with numbers that no slack reaches
pub searching_start : {z : Size} {p u l c sums given : List ℕ} {row : Row} {i k : ℕ} → Setting z p u l c sums given i k → Limits l → length row.excesses ≡ most_resources
    → row.holds_for ≡ Some (strategy_at c i, strategy_at c k) → ((r : ℕ) → 1 ≤ r → r ≤ z.resources → numbers row r ≡ 2 ^ 50) → (leader : ℕ → ℕ) → Searching (tables z p u l) leader c i k row 0
searching_start {z} {p} {u} {l} s limits wide fresh h leader =
    record {
      places = wide;
      strategies = λ _ e. cc;
      tight =
          record {
            places = places s.running;
            first = refl;
            second = refl;
            short = λ r low high. omega (arith, h r low high, limits.small (r - 1), limit_at_lem l r low (omega (arith, s.running.bounded.resources)));
          };
      before = λ v lv. absurd (omega arith);
    }

-- ---- a resource that is short

pub short_is : (n : ℕ) (room : ℕ → Bool) (o : Option ℕ)
    → MatchOption o ((r : ℕ) → 1 ≤ r → r < n + 1 → room r ≡ true) (λ r. (1 ≤ r) × (r < n + 1) × (room r ≡ false) × ((q : ℕ) → 1 ≤ q → q < r → room q ≡ true)) → IsShort n room o
short_is n room None h = all_true n room (λ r low high. h r low (omega arith))
short_is n room (Some r) h = (h.0, omega arith, h.2)
