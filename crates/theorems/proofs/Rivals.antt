-- Where phase 3 finds no change, no programme within the limits that differs in one segment or two is better, whatever strategies it has: those
-- that are no candidates count nothing, and without them the limits still hold. Leaders have candidates or nothing, so that none loses what
-- another segment needs.
use Prim.Native.Nat.{ℕ, zero, suc, ◌-◌, ◌≤◌}
use mathlib.Core.Path.{◌≡◌, refl, ap, sym, ◌∙◌, subst}
use mathlib.Core.Bool.{Bool, true, false}
use mathlib.Core.List.{List}
use Rattle.std.specs.Prelude.{None}
use native.Mathlib.Omega.{arith}
use borrow.Author.Tests.{leb-true, leb-false, le-leb, eqb-true, eqb-false}
use lib.Dec.{leb, eqb}
use lib.ListN.{length, length-set}
use Rattle.base.specs.Over.{sum}
use Rattle.base.proofs.Sums.{sum_le, sum_cong}
use Rattle.base.proofs.All.{all_true}
use Rattle.rules.specs.Table.{Table}
use Rattle.rules.specs.Phases.{strategy_at, give, chosen_benefit, total, chosen_usage, used, holds, within, heeds, respects, change}
use Rattle.laws.specs.Tables.{FitAlone, Allowed, OfCandidates}
use Rattle.laws.proofs.Give.{given, kept}
use Rattle.laws.proofs.Leaders.{LowerLeaders, heeds_nothing, heeds_still}
use Rattle.theorems.specs.Rivals.{total_by, used_by, Rival, Heeding}
use Rattle.theorems.proofs.Cleaned.{cleaned, by_test, cleaned_benefit, cleaned_usage, cleaned_allowed, cleaned_same}
use Rattle.theorems.proofs.Neighbours.{pair_le}

-- ---- the programme that has the rival's strategies on segments i and k, cleaned

module _ (t : Table) (fit : FitAlone t) (p : List ℕ) (o : OfCandidates t p) (c : ℕ → ℕ) (rival : Rival t c) (i k : ℕ)
    (l : 1 ≤ i) (h : i ≤ t.segments) (lk : 1 ≤ k) (hk : k ≤ t.segments)
    (elsewhere : (m : ℕ) → 1 ≤ m → m ≤ t.segments → ¬ (m ≡ i) → ¬ (m ≡ k) → strategy_at p m ≡ c m) where
  abbrev clean : ℕ → ℕ
  clean m = cleaned t m (c m)

  abbrev moved : List ℕ
  moved = give (give p i (clean i)) k (clean k)

  room : (j : ℕ) → t.segments ≤ length (give p i j)
  room j = omega (arith, length-set p (i - 1) j, o.places, fit.segments)

  moved_at : (m : ℕ) → 1 ≤ m → m ≤ t.segments → strategy_at moved m ≡ clean m
  moved_at m lm hm = go (eqb m k) refl (eqb m i) refl
    where
      go : (x : Bool) → eqb m k ≡ x → (y : Bool) → eqb m i ≡ y → strategy_at moved m ≡ clean m
      go true e y f = rw (eqb-true m k e) (given (give p i (clean i)) k (clean k) lk (omega (arith, room (clean i))))
      go false e true f = kept (give p i (clean i)) k (clean k) m lk lm (eqb-false m k e) ∙ rw (eqb-true m i f) (given p i (clean i) l (omega (arith, o.places, fit.segments)))
      go false e false f =
          let same = elsewhere m lm hm (eqb-false m i f) (eqb-false m k e) in
          kept (give p i (clean i)) k (clean k) m lk lm (eqb-false m k e) ∙ kept p i (clean i) m l lm (eqb-false m i f) ∙ same
          ∙ sym (cleaned_same t fit m (c m) lm hm (subst (Allowed t m) same (o.each m lm hm)))

  moved_total : total t moved ≡ total_by t c
  unfolding total chosen_benefit
  moved_total =
      sum_cong t.segments (chosen_benefit t moved) (λ m. t.benefit m (c m))
      (λ m lm hm. ap (t.benefit m) (moved_at m lm hm) ∙ cleaned_benefit t fit m (c m) lm hm)

  moved_used : (r : ℕ) → 1 ≤ r → r ≤ t.resources → used t moved r ≤ used_by t c r
  unfolding used chosen_usage
  moved_used r lr hr =
      sum_le t.segments (chosen_usage t moved r) (λ m. t.usage m (c m) r)
      (λ m lm hm. let at = ap (λ (j : ℕ). t.usage m j r) (moved_at m lm hm) in omega (arith, cleaned_usage t fit m (c m) lm hm r lr hr))

  moved_within : within t moved ≡ true
  unfolding within holds
  moved_within = all_true t.resources (holds t moved) (λ r lr hr. le-leb (used t moved r) (t.limit r) (omega (arith, moved_used r lr hr, rival.within r lr hr)))

  module _ (leader : ℕ → ℕ) (lower : LowerLeaders leader t.segments) (heeding : Heeding t c leader) where
    -- a leader keeps what it has
    leader_keeps : (m : ℕ) → 1 ≤ m → m ≤ t.segments → 1 ≤ leader m → c (leader m) ≡ strategy_at moved (leader m)
    leader_keeps m lm hm some-leader =
        let below = lower m lm hm in
        let few : leader m ≤ t.segments = omega arith in
        sym (moved_at (leader m) some-leader few ∙ cleaned_same t fit (leader m) (c (leader m)) some-leader few (heeding.worth m lm hm some-leader))

    moved_heeds : (m : ℕ) → 1 ≤ m → m ≤ t.segments → heeds leader (strategy_at moved) m ≡ true
    moved_heeds m lm hm =
        by_test t fit m (c m) lm hm (λ a. strategy_at moved m ≡ a → heeds leader (strategy_at moved) m ≡ true)
        (λ worth same. heeds_still leader c (strategy_at moved) m (sym same) (leader_keeps m lm hm) (heeding.heeds m lm hm))
        (λ None same. heeds_nothing leader (strategy_at moved) m same) (moved_at m lm hm)

    moved_respects : respects leader t.segments moved ≡ true
    unfolding respects
    moved_respects = all_true t.segments (heeds leader (strategy_at moved)) moved_heeds

    two_apart : change t leader p ≡ None → total_by t c ≤ total t p
    two_apart ended =
        rw (← moved_total)
        (pair_le t leader p ended i k (clean i) (clean k) l h lk hk (cleaned_allowed t fit i (c i) l h (rival.numbers i l h))
        (cleaned_allowed t fit k (c k) lk hk (rival.numbers k lk hk)) (moved_within, moved_respects))

-- ---- segments of any number, also such as the table does not have

-- a segment k of the table in i's place: a segment that is not k is not i
in_table : {P : Type 0} (n i : ℕ) → 1 ≤ n → ((k : ℕ) → 1 ≤ k → k ≤ n → ((m : ℕ) → 1 ≤ m → m ≤ n → ¬ (m ≡ k) → ¬ (m ≡ i)) → P) → P
in_table {P} n i some-n go = known (leb 1 i) refl (leb i n) refl
  where
    known : (x : Bool) → leb 1 i ≡ x → (y : Bool) → leb i n ≡ y → P
    known true e true f = go i (leb-true 1 i e) (leb-true i n f) (λ m l h ne. ne)
    known true e false f = go 1 (omega arith) some-n (λ m l h ne q. omega (arith, leb-false i n f))
    known false e y f = go 1 (omega arith) some-n (λ m l h ne q. omega (arith, leb-false 1 i e))

pub neighbour :
    (t : Table) → FitAlone t → (leader : ℕ → ℕ) → LowerLeaders leader t.segments → (p : List ℕ) → OfCandidates t p → change t leader p ≡ None
    → (c : ℕ → ℕ) → Rival t c → Heeding t c leader → (i k : ℕ)
    → ((m : ℕ) → 1 ≤ m → m ≤ t.segments → ¬ (m ≡ i) → ¬ (m ≡ k) → strategy_at p m ≡ c m) → total_by t c ≤ total t p
unfolding sum
neighbour t fit leader lower p o ended c rival heeding i k elsewhere = go t.segments refl
  where
    go : (n : ℕ) → t.segments ≡ n → total_by t c ≤ total t p
    go zero e = rw (e, sum) (omega arith)
    go (suc n) e =
        in_table t.segments i (omega arith) (λ i' l h apart.
        in_table t.segments k (omega arith) (λ k' lk hk also.
        two_apart t fit p o c rival i' k' l h lk hk (λ m lm hm ne no. elsewhere m lm hm (apart m lm hm ne) (also m lm hm no)) leader lower heeding ended))
