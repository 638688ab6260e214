-- What a change of phase 3 is: one segment or two that change, a rise of the total, limits that hold and leaders that are respected.
use Prim.Native.Nat.{ℕ, zero, suc, ◌≤◌, ◌<◌}
use mathlib.Core.Path.{◌≡◌, refl, ap, subst}
use mathlib.Core.Bool.{Bool, true, false, not, ◌&&◌, ◌||◌}
use mathlib.Core.List.{List}
use mathlib.Core.Logic.{inl, inr}
use Rattle.std.specs.Prelude.{Option, None, Some}
use native.Mathlib.Omega.{arith}
use borrow.Author.Tests.{ltb-true, ltb-false, eqb-true, eqb-false}
use lib.Dec.{ltb, eqb}
use Rattle.base.specs.Choice.{pick}
use Rattle.base.specs.Search.{first}
use Rattle.std.proofs.lemmas.Bool.{and_parts}
use Rattle.base.proofs.Sums.{sum_le}
use Rattle.base.proofs.Search.{only_some, first_some, or_else_some}
use Rattle.base.proofs.Best.{best_most}
use Rattle.rules.specs.District.{most_segments}
use Rattle.rules.specs.Table.{Table}
use Rattle.rules.specs.Phases.{strategy_at, give, is_candidate, greater, chosen_benefit, total, within, top_candidate, bests, respects, another, counts, single, pair, first_strategy, singles_of, first_single, pairs_with, pairs_of, pairs_from, first_pair, change}
use Rattle.laws.specs.Tables.{Allowed}
use Rattle.laws.proofs.Give.{give_numbers}
use Rattle.laws.proofs.Gives.{Gives, give_gives, gives_then, Numbers}
use Rattle.laws.proofs.Steps.{candidate_worth, bests_at}

module _ (t : Table) (leader : ℕ → ℕ) (c : List ℕ) where
  -- one segment or two segments changed, to strategies that the table has
  pub data Changed : List ℕ → Type 0 where
    one : (i a : ℕ) → 1 ≤ i → i ≤ t.segments → a ≤ t.strategies → Changed (give c i a)
    two : (i k a b : ℕ) → 1 ≤ i → i < k → k ≤ t.segments → a ≤ t.strategies → b ≤ t.strategies → Changed (give (give c i a) k b)

  -- a change from c that counts
  pub record Counted (e : List ℕ) : Type 0 where
    pub changed : Changed e
    pub counted : counts t leader c e ≡ true
    pub gives : Gives t c e

  -- another strategy than the segment has is nothing or a candidate
  another_allowed : (i j : ℕ) → j ≤ t.strategies → another t c i j ≡ true → Allowed t i j
  unfolding another
  another_allowed i j s ok = go (eqb j 0) refl (and_parts (not (eqb j (strategy_at c i))) (eqb j 0 || is_candidate t i j) ok).1
    where
      go : (x : Bool) → eqb j 0 ≡ x → (x || is_candidate t i j) ≡ true → Allowed t i j
      go true e ok = inl (eqb-true j 0 e)
      go false e ok = inr (let z = eqb-false j 0 e in omega arith, s, candidate_worth t i j ok)

  strategy_some : (f : ℕ → Option (List ℕ)) → ((a : ℕ) → a ≤ t.strategies → (e : List ℕ) → f a ≡ Some e → Counted e) → (e : List ℕ) → first_strategy t f ≡ Some e → Counted e
  unfolding first_strategy
  strategy_some f each e q =
      or_else_some Counted (f 0) (first t.strategies f) (each 0 (omega arith)) (first_some Counted t.strategies f (λ a l h. each a h)) q

  single_some : (i a : ℕ) → 1 ≤ i → i ≤ t.segments → a ≤ t.strategies → (e : List ℕ) → single t leader c i a ≡ Some e → Counted e
  unfolding single
  single_some i a l h s e q =
      let w = only_some (another t c i a && counts t leader c (give c i a)) q in
      let x = and_parts (another t c i a) (counts t leader c (give c i a)) w.0 in
      let g = give_gives t c i a l h (another_allowed i a s x.0) in
      subst Counted w.1 (record { changed = one i a l h s; counted = x.1; gives = g })

  pair_some : (i k a b : ℕ) → 1 ≤ i → i < k → k ≤ t.segments → a ≤ t.strategies → b ≤ t.strategies → (e : List ℕ) → pair t leader c i k a b ≡ Some e → Counted e
  unfolding pair
  pair_some i k a b l m h s v e q =
      let d = give (give c i a) k b in
      let w = only_some (another t c i a && (another t c k b && counts t leader c d)) q in
      let x = and_parts (another t c i a) (another t c k b && counts t leader c d) w.0 in
      let y = and_parts (another t c k b) (counts t leader c d) x.1 in
      let g = give_gives t c i a l (omega arith) (another_allowed i a s x.0) in
      let f = give_gives t (give c i a) k b (omega arith) h (another_allowed k b v y.0) in
      subst Counted w.1 (record { changed = two i k a b l m h s v; counted = y.1; gives = gives_then t c (give c i a) d g f })

  pick_some : (x : Bool) (f : Option (List ℕ)) (e : List ℕ) → (x ≡ true → f ≡ Some e → Counted e) → pick x f None ≡ Some e → Counted e
  pick_some true f e h q = h refl q
  pick_some false f e h q = cc

  pub change_some : (e : List ℕ) → change t leader c ≡ Some e → Counted e
  unfolding change first_single singles_of first_pair pairs_from pairs_of pairs_with
  change_some e q =
      or_else_some Counted (first_single t leader c) (first_pair t leader c)
      (first_some Counted t.segments (singles_of t leader c) (λ i l h. strategy_some (single t leader c i) (λ a s. single_some i a l h s)))
      (first_some Counted t.segments (pairs_from t leader c)
      (λ i l h. first_some Counted t.segments (pairs_of t leader c i)
      (λ k lk hk e. pick_some (ltb i k) (first_strategy t (pairs_with t leader c i k)) e
      (λ m. strategy_some (pairs_with t leader c i k)
      (λ a s. strategy_some (pair t leader c i k a)
      (λ b v. pair_some i k a b l (ltb-true i k m) hk s v)) e))))
      q

  -- ---- what a change does

  -- the three parts of what counts
  counted_is :
      (e : List ℕ) → counts t leader c e ≡ true → (total t c < total t e) × (within t e ≡ true) × (respects leader t.segments e ≡ true)
  unfolding counts
  counted_is e q =
      let x = and_parts (ltb (total t c) (total t e)) (within t e && respects leader t.segments e) q in
      let y = and_parts (within t e) (respects leader t.segments e) x.1 in
      (ltb-true (total t c) (total t e) x.0, y.0, y.1)

  pub change_rises : (e : List ℕ) → change t leader c ≡ Some e → total t c < total t e
  change_rises e q = (counted_is e (change_some e q).counted).0

  pub change_within : (e : List ℕ) → change t leader c ≡ Some e → within t e ≡ true
  change_within e q = (counted_is e (change_some e q).counted).1

  pub change_respects : (e : List ℕ) → change t leader c ≡ Some e → respects leader t.segments e ≡ true
  change_respects e q = (counted_is e (change_some e q).counted).2

  -- strategy numbers stay within the table's
  pub change_numbers : (e : List ℕ) → change t leader c ≡ Some e → ((k : ℕ) → strategy_at c k ≤ t.strategies) → (k : ℕ) → strategy_at e k ≤ t.strategies
  change_numbers e q before = go e (change_some e q).changed
    where
      go : (e : List ℕ) → Changed e → (k : ℕ) → strategy_at e k ≤ t.strategies
      go e (one i a l h s) = give_numbers c i a t.strategies s before
      go e (two i k a b l m h s v) = give_numbers (give c i a) k b t.strategies v (give_numbers c i a t.strategies s before)

-- ---- no programme has a greater total than that of the best candidates, which bounds the changes

module _ (t : Table) (few : t.segments ≤ most_segments) (nothing : (i : ℕ) → 1 ≤ i → i ≤ t.segments → t.benefit i 0 ≡ 0) where
  -- the best candidate of a segment has the greatest benefit there
  pub top_most : (i j : ℕ) → 1 ≤ i → i ≤ t.segments → j ≤ t.strategies → t.benefit i j ≤ t.benefit i (top_candidate t i)
  unfolding top_candidate is_candidate greater
  top_most i zero l h s = omega (arith, nothing i l h)
  top_most i (suc j) l h s = go (ltb 0 (t.benefit i (suc j))) refl
    where
      go : (x : Bool) → ltb 0 (t.benefit i (suc j)) ≡ x → t.benefit i (suc j) ≤ t.benefit i (top_candidate t i)
      go true e = (best_most (is_candidate t i) (t.benefit i) t.strategies (suc j) (omega arith) s e).1
      go false e = omega (arith, ltb-false 0 (t.benefit i (suc j)) e)

  chosen_le : (c : List ℕ) → Numbers t c → (i : ℕ) → 1 ≤ i → i ≤ t.segments → chosen_benefit t c i ≤ chosen_benefit t (bests t) i
  unfolding chosen_benefit
  chosen_le c n i l h = let e = ap (t.benefit i) (bests_at t i l (omega arith)) in omega (arith, top_most i (strategy_at c i) l h (n i l h))

  pub total_le : (c : List ℕ) → Numbers t c → total t c ≤ total t (bests t)
  unfolding total
  total_le c n = sum_le t.segments (chosen_benefit t c) (chosen_benefit t (bests t)) (chosen_le c n)

-- of a table and a programme that say this of every place
pub total_most : (t : Table) (nothing : (i : ℕ) → t.benefit i 0 ≡ 0) (c : List ℕ) → t.segments ≤ most_segments → ((k : ℕ) → strategy_at c k ≤ t.strategies) → total t c ≤ total t (bests t)
total_most t nothing c few numbers = total_le t few (λ i l h. nothing i) c (λ i l h. numbers i)
