-- Offers and pick-ups over arrays.
use Prim.Native.Nat.{ℕ, zero, suc, ◌+◌, ◌≤◌, ◌<◌}
use mathlib.Core.Path.{◌≡◌, refl, ap, sym, ◌∙◌}
use mathlib.Core.Bool.{Bool, true, false, ◌&&◌, and_assoc, and-false}
use mathlib.Core.List.{List}
use Rattle.std.specs.Prelude.{Option, None, Some}
use Rattle.std.specs.List.{reduce, filter_map, range_with_len}
use native.Mathlib.Omega.{arith}
use borrow.Author.Tests.{lt-ltb}
use lib.Dec.{ltb, eqb}
use Rattle.base.specs.Choice.{pick}
use Rattle.base.proofs.Best.{best_le}
use Rattle.base.proofs.Runs.{Reached, reached_start, reached_next, reached_end}
use Rattle.rules.specs.Table.{Table}
use Rattle.rules.specs.Phases.{strategy_at, give, is_candidate, greater, within, led, fitting, offer, offer_benefit, vacant, greater_offer, best_offer, picked_up, pick_up, phase2}
use Rattle.laws.proofs.PickUps.{vacancies, vacancies_le, pick_up_falls}
use Rattle.tables.specs.declared.Size.{Size}
use Rattle.tables.specs.declared.view.TableView.{TableView}
use Rattle.tables.specs.Arrays.{benefit_at, tables}
use Rattle.tables.specs.Views.{table_in, leaders_in}
use Rattle.rules.specs.District.{most_segments}
use lib.ListN.{length}
use Rattle.phase1.specs.Reduce.{best_passing}
use Rattle.phase1.proofs.Reduced.{reduced}
use Rattle.phase2.specs.declared.Offer.{Offer}
use Rattle.phase2.specs.Offers.{offer_by, offer_at, offer_in, best_in}

-- the better of two offers, the one before and the other
abbrev pub better : Offer → Offer → Offer
better x y = pick (ltb x.benefit y.benefit) y x

module _ (z : Size) (b u l c : List ℕ) where
  abbrev t : Table
  t = tables z b u l

  -- ---- the offer for segment i: the best of those that fit

  pub offer_is : (i : ℕ) → best_passing z.strategies (benefit_at b i) (λ j. within t (give c i j)) ≡ offer t c i
  unfolding offer fitting is_candidate greater
  offer_is i = refl

  pub offer_le : (i : ℕ) → offer t c i ≤ z.strategies
  unfolding offer
  offer_le i = best_le z.strategies (fitting t c i) (greater t i)

  -- ---- the offer to pick up, of the first n segments

  module _ (leader : ℕ → ℕ) where
    -- segment i has nothing, and may have something
    abbrev free : ℕ → Bool
    free i = eqb (strategy_at c i) 0 && led leader (strategy_at c) i

    vacant_is : (i : ℕ) → vacant t leader c i ≡ (free i && ltb 0 (offer t c i))
    unfolding vacant
    vacant_is i = sym (and_assoc (eqb (strategy_at c i) 0) (led leader (strategy_at c) i) (ltb 0 (offer t c i)))

    pub offer_taken : (i : ℕ) → free i ≡ false → None ≡ offer_at t leader c i
    offer_taken i e = rw (vacant_is i, e)

    pub offer_none : (i : ℕ) → offer t c i ≡ 0 → None ≡ offer_at t leader c i
    offer_none i e = rw (vacant_is i, e, and-false (free i))

    pub offer_some : (i j : ℕ) {value : ℕ} → free i ≡ true → j ≡ offer t c i → (j ≡ 0 → ⊥) → value ≡ benefit_at b i j → Some (record { takes = record { 0 = i; 1 = j }; benefit = value }) ≡ offer_at t leader c i
    unfolding offer_benefit
    offer_some i j e is some worth = rw (vacant_is i, e, lt-ltb 0 (offer t c i) (omega (arith, is)), worth, is)

    -- ---- the offer to pick up

    abbrev pub offers : ℕ → List Offer
    offers n = filter_map (λ k. offer_at t leader c (k + 1)) (range_with_len 0 n)

    pub best_is : reduce better (offers z.segments) ≡ best_in t leader c
    unfolding best_offer greater_offer
    best_is = reduced (vacant t leader c) (greater_offer t c) (offer_by t c) better (λ a b low less. refl) z.segments

    best_le_segments : best_offer t leader c ≤ z.segments
    unfolding best_offer
    best_le_segments = best_le z.segments (vacant t leader c) (greater_offer t c)

    -- ---- a pick-up

    pick_none : None ≡ best_in t leader c → pick_up t leader c ≡ None
    unfolding pick_up picked_up
    pick_none e = go (best_offer t leader c) e
      where
        go : (i : ℕ) → None ≡ offer_in t c i → picked_up t c i ≡ None
        go zero e = refl
        go (suc i) e = absurd cc

    module _ {o : Offer} (found : Some o ≡ best_in t leader c) where
      abbrev Taken : ℕ → Type 0
      Taken i = (1 ≤ i) × (o.takes.0 ≡ i) × (o.takes.1 ≡ offer t c i) × (picked_up t c i ≡ Some (give c o.takes.0 o.takes.1))

      picks : Taken (best_offer t leader c)
      unfolding picked_up
      picks = go (best_offer t leader c) found
        where
          go : (i : ℕ) → Some o ≡ offer_in t c i → Taken i
          go zero e = absurd cc
          go (suc i) e = let same : o ≡ offer_by t c (suc i) = cc in rw same (omega arith, refl, refl, refl)

      pub pick_inside : (1 ≤ o.takes.0) × (o.takes.0 ≤ z.segments) × (o.takes.1 ≤ z.strategies)
      pick_inside = (omega (arith, picks.0, picks.1), omega (arith, picks.1, best_le_segments), omega (arith, picks.2, offer_le (best_offer t leader c)))

      pick_some : pick_up t leader c ≡ Some (give c o.takes.0 o.takes.1)
      unfolding pick_up
      pick_some = picks.3

-- after m pick-ups there are m segments less that have nothing
pub record Picking (t : TableView) (start c : List ℕ) (m : ℕ) : Type 0 where
  pub reached : Reached (pick_up (table_in t) (leaders_in t)) t.size.segments start c m
  pub left : m + vacancies (table_in t) c ≤ t.size.segments

pub picking_start : (t : TableView) (start : List ℕ) → Picking t start start 0
picking_start t start =
    record {
      reached = reached_start (pick_up (table_in t) (leaders_in t)) t.size.segments start;
      left = omega (arith, vacancies_le (table_in t) start);
    }

-- what the search for an offer found in programme c
abbrev pub FoundIn : TableView → List ℕ → Option Offer → Type 0
FoundIn t c r = r ≡ best_in (table_in t) (leaders_in t) c

module _ {t : TableView} {start c : List ℕ} {m : ℕ} (here : Picking t start c m) where
  pub picking_end : FoundIn t c None → (c ≡ (phase2 (table_in t) (leaders_in t) start).last) × (m ≡ (phase2 (table_in t) (leaders_in t) start).count)
  unfolding phase2
  picking_end found =
      let none = pick_none t.size t.benefits.entries.now t.uses.entries.now t.limits.entries.now c (leaders_in t) found in
      let done = reached_end (pick_up (table_in t) (leaders_in t)) t.size.segments start c m here.reached none in
      (sym done.0, sym done.1)

  -- an offer found is taken
  pub picking_next : length c ≡ most_segments → {o : Offer} {e : List ℕ} → FoundIn t c (Some o) → e ≡ give c o.takes.0 o.takes.1 → (m < t.size.segments) × Picking t start e (m + 1)
  picking_next places {o} {e} found given =
      let next : pick_up (table_in t) (leaders_in t) c ≡ Some e =
      pick_some t.size t.benefits.entries.now t.uses.entries.now t.limits.entries.now c (leaders_in t) found ∙ ap Some (sym given) in
      let fewer = pick_up_falls (table_in t) (leaders_in t) c e next (omega (arith, t.bounded.segments)) in
      let less : m < t.size.segments = omega (arith, here.left) in (
        less,
        record { reached = reached_next (pick_up (table_in t) (leaders_in t)) t.size.segments start c e m here.reached less next; left = omega (arith, here.left) },
      )
