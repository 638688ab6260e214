-- What a pick-up of phase 2 does: a segment with nothing gets a candidate, the total rises, and every limit holds.
use Prim.Native.Nat.{ℕ, zero, suc, ◌≤◌, ◌<◌}
use mathlib.Core.Path.{◌≡◌, refl, ap, subst, ◌∙◌}
use mathlib.Core.Bool.{true, ◌&&◌}
use mathlib.Core.List.{List}
use mathlib.Core.Logic.{inr}
use Rattle.std.specs.Prelude.{Some}
use native.Mathlib.Omega.{arith}
use borrow.Author.Tests.{ltb-true, eqb-true, eq-eqb, ne_eqb}
use lib.Dec.{ltb, eqb}
use lib.ListN.{length}
use Rattle.base.specs.Choice.{pick}
use Rattle.base.specs.Over.{sum}
use Rattle.std.proofs.lemmas.Bool.{and_parts}
use Rattle.base.proofs.Choice.{pick_all}
use Rattle.base.proofs.Sums.{sum_bound}
use Rattle.base.proofs.Best.{best_le, best_passes}
use Rattle.rules.specs.Table.{Table}
use Rattle.rules.specs.Phases.{strategy_at, give, is_candidate, greater, chosen_benefit, total, within, led, respects, fitting, offer, offer_benefit, vacant, greater_offer, best_offer, picked_up, pick_up}
use Rattle.laws.proofs.Give.{sum_give, total_give}
use Rattle.laws.proofs.Gives.{Gives, give_gives}
use Rattle.laws.proofs.Leaders.{give_respects}

module _ (t : Table) where
  offer_fits : (c : List ℕ) (i : ℕ) → 1 ≤ offer t c i → (1 ≤ t.benefit i (offer t c i)) × (within t (give c i (offer t c i)) ≡ true)
  unfolding offer greater fitting is_candidate
  offer_fits c i l =
      let w = and_parts (is_candidate t i (offer t c i)) (within t (give c i (offer t c i))) (best_passes (fitting t c i) (t.benefit i) t.strategies l) in
      (ltb-true 0 (t.benefit i (offer t c i)) w.0, w.1)

  -- c has a place for each segment
  abbrev pub Room : List ℕ → Type 0
  Room c = t.segments ≤ length c

  abbrev nothing_at : ℕ → ℕ → ℕ
  nothing_at i j = pick (eqb j 0) 1 0

  -- how many segments have nothing
  abbrev pub vacancies : List ℕ → ℕ
  vacancies c = sum t.segments (λ i. nothing_at i (strategy_at c i))

  pub vacancies_le : (c : List ℕ) → vacancies c ≤ t.segments
  vacancies_le c =
      omega (arith, sum_bound t.segments 1 (λ i. nothing_at i (strategy_at c i)) (λ i l h. pick_all (λ n. n ≤ 1) (eqb (strategy_at c i) 0) 1 0 (omega arith) (omega arith)))

module _ (t : Table) (leader : ℕ → ℕ) where
  -- segment i has nothing and may have something, and candidate j fits
  pub record Fitting (c : List ℕ) (i j : ℕ) : Type 0 where
    pub some_segment : 1 ≤ i
    pub segment : i ≤ t.segments
    pub vacant : strategy_at c i ≡ 0
    pub may : led leader (strategy_at c) i ≡ true
    pub some_strategy : 1 ≤ j
    pub strategy : j ≤ t.strategies
    pub candidate : 1 ≤ t.benefit i j
    pub holds : within t (give c i j) ≡ true

  best_fits : (c : List ℕ) (i : ℕ) → best_offer t leader c ≡ i → 1 ≤ i → Fitting c i (offer t c i)
  unfolding best_offer greater_offer offer_benefit vacant offer
  best_fits c i is l =
      let few = best_le t.segments (vacant t leader c) (greater_offer t c) in
      let free = subst (λ (k : ℕ). vacant t leader c k ≡ true) is (best_passes (vacant t leader c) (offer_benefit t c) t.segments (rw is l)) in
      let w = and_parts (eqb (strategy_at c i) 0) (led leader (strategy_at c) i && ltb 0 (offer t c i)) free in
      let v = and_parts (led leader (strategy_at c) i) (ltb 0 (offer t c i)) w.1 in
      let some_j = ltb-true 0 (offer t c i) v.1 in
      let ok = offer_fits t c i some_j in
      record {
        some_segment = l;
        segment = omega arith;
        vacant = eqb-true (strategy_at c i) 0 w.0;
        may = v.0;
        some_strategy = some_j;
        strategy = best_le t.strategies (fitting t c i) (greater t i);
        candidate = ok.0;
        holds = ok.1;
      }

  -- a pick-up, of whatever segment and candidate
  pub picked : (P : List ℕ → Type 0) (c : List ℕ) → ((i j : ℕ) → Fitting c i j → P (give c i j)) → (e : List ℕ) → pick_up t leader c ≡ Some e → P e
  unfolding pick_up picked_up
  picked P c each e found = go (best_offer t leader c) refl found
    where
      go : (i : ℕ) → best_offer t leader c ≡ i → picked_up t c i ≡ Some e → P e
      go zero is f = cc
      go (suc i) is f =
          let same : give c (suc i) (offer t c (suc i)) ≡ e = cc in
          subst P same (each (suc i) (offer t c (suc i)) (best_fits c (suc i) is (omega arith)))

  pub pick_up_holds : (c e : List ℕ) → pick_up t leader c ≡ Some e → within t e ≡ true
  pick_up_holds c = picked (λ e. within t e ≡ true) c (λ i j f. f.holds)

  pub pick_up_gives : (c e : List ℕ) → pick_up t leader c ≡ Some e → Gives t c e
  pick_up_gives c = picked (Gives t c) c (λ i j f. give_gives t c i j f.some_segment f.segment (inr (f.some_strategy, f.strategy, f.candidate)))

  pub pick_up_respects :
      (c e : List ℕ) → pick_up t leader c ≡ Some e → Room t c → respects leader t.segments c ≡ true → respects leader t.segments e ≡ true
  pick_up_respects c e found room before =
      picked (λ e. respects leader t.segments e ≡ true) c
      (λ i j f. give_respects leader t.segments c i j f.some_segment (omega (arith, f.segment)) f.some_strategy f.may before) e found

  pub pick_up_rises :
      ((i : ℕ) → 1 ≤ i → i ≤ t.segments → t.benefit i 0 ≡ 0) → (c e : List ℕ) → pick_up t leader c ≡ Some e → Room t c → total t c < total t e
  unfolding chosen_benefit
  pick_up_rises nothing c e found room = picked (λ e. total t c < total t e) c rises e found
    where
      rises : (i j : ℕ) → Fitting c i j → total t c < total t (give c i j)
      rises i j f =
          let old : chosen_benefit t c i ≡ 0 = ap (t.benefit i) f.vacant ∙ nothing i f.some_segment f.segment in
          omega (arith, total_give t c i j f.some_segment f.segment room, f.candidate)

  -- ---- each segment is picked up at most once

  pub pick_up_falls : (c e : List ℕ) → pick_up t leader c ≡ Some e → Room t c → vacancies t e < vacancies t c
  pick_up_falls c e found room = picked (λ e. vacancies t e < vacancies t c) c fewer e found
    where
      fewer : (i j : ℕ) → Fitting c i j → vacancies t (give c i j) < vacancies t c
      fewer i j f =
          let moved = sum_give t c i j f.some_segment f.segment room (nothing_at t) in
          let old : nothing_at t i (strategy_at c i) ≡ 1 = rw (eq-eqb (strategy_at c i) 0 f.vacant) in
          let new : nothing_at t i j ≡ 0 = rw (ne_eqb j 0 (λ z. omega (arith, f.some_strategy))) in
          omega arith
