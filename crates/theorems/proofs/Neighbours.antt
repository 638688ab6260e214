-- Where phase 3 finds no change, no change of one segment or two to candidates or nothing is within the limits, respects leaders and is better.
use Prim.Native.Nat.{ℕ, zero, suc, ◌-◌, ◌≤◌, ◌<◌}
use mathlib.Core.Path.{◌≡◌, refl, ap, sym, ◌∙◌}
use mathlib.Core.Bool.{Bool, true, false, ◌&&◌}
use mathlib.Core.List.{List}
use mathlib.Core.Logic.{inl, inr}
use Rattle.std.specs.Prelude.{Option, None}
use native.Mathlib.Omega.{arith}
use borrow.Author.Tests.{ltb-true, ltb-false, lt-ltb, eqb-true, eqb-false, eq-eqb, ne_eqb}
use lib.Dec.{ltb, eqb}
use lib.Seq.{set-get_or, set-set, set_comm}
use Rattle.base.specs.Search.{first}
use Rattle.std.proofs.lemmas.Bool.{and_from}
use Rattle.base.proofs.Search.{or_else_none, only_none, first_at}
use Rattle.rules.specs.Table.{Table}
use Rattle.rules.specs.Phases.{strategy_at, give, is_candidate, total, within, respects, another, counts, single, pair, first_strategy, singles_of, first_single, pairs_with, pairs_of, pairs_from, first_pair, change}
use Rattle.laws.specs.Tables.{Allowed}
use Rattle.laws.proofs.Give.{kept}
use Rattle.laws.proofs.Gives.{allowed_number}

module _ (t : Table) (leader : ℕ → ℕ) (c : List ℕ) where
  strategy_at_lem : (f : ℕ → Option (List ℕ)) → first_strategy t f ≡ None → (j : ℕ) → j ≤ t.strategies → f j ≡ None
  unfolding first_strategy
  strategy_at_lem f e zero h = (or_else_none (f 0) (first t.strategies f) e).0
  strategy_at_lem f e (suc j) h =
      first_at t.strategies f (or_else_none (f 0) (first t.strategies f) e).1 (suc j) (omega arith) h

  another_yes : (i j : ℕ) → Allowed t i j → (j ≡ strategy_at c i → ⊥) → another t c i j ≡ true
  unfolding another is_candidate
  another_yes i j (inl z) ne = rw (ne_eqb j (strategy_at c i) ne, eq-eqb j 0 z)
  another_yes i j (inr ok) ne =
      rw (ne_eqb j (strategy_at c i) ne, ne_eqb j 0 (λ z. omega arith), lt-ltb 0 (t.benefit i j) ok.2)

  -- every limit holds, and leaders are respected
  abbrev pub Keeps : List ℕ → Type 0
  Keeps e = (within t e ≡ true) × (respects leader t.segments e ≡ true)

  -- a change that does not count, though and_from are kept, does not raise the total
  no_rise : (e : List ℕ) → counts t leader c e ≡ false → Keeps e → total t e ≤ total t c
  unfolding counts
  no_rise e f w =
      let kept = and_from (within t e) (respects leader t.segments e) w.0 w.1 in
      ltb-false (total t c) (total t e) (first_fails (ltb (total t c) (total t e)) (within t e && respects leader t.segments e) f kept)
    where
      first_fails : (x y : Bool) → (x && y) ≡ false → y ≡ true → x ≡ false
      first_fails true y f w = sym w ∙ f
      first_fails false y f w = refl

  module _ (ended : change t leader c ≡ None) where
    no_single : (i j : ℕ) → 1 ≤ i → i ≤ t.segments → j ≤ t.strategies → (another t c i j && counts t leader c (give c i j)) ≡ false
    unfolding change first_single singles_of single
    no_single i j l h s =
        let none_in = first_at t.segments (singles_of t leader c) (or_else_none (first_single t leader c) (first_pair t leader c) ended).0 i l h in
        only_none (another t c i j && counts t leader c (give c i j)) (give c i j) (strategy_at_lem (single t leader c i) none_in j s)

    pub no_pair :
        (i k a b : ℕ) → 1 ≤ i → i < k → k ≤ t.segments → a ≤ t.strategies → b ≤ t.strategies
        → (another t c i a && (another t c k b && counts t leader c (give (give c i a) k b))) ≡ false
    unfolding change first_pair pairs_from pairs_of pairs_with pair
    no_pair i k a b l lt h s v =
        let none_from = first_at t.segments (pairs_from t leader c) (or_else_none (first_single t leader c) (first_pair t leader c) ended).1 i l (omega arith) in
        let none_of = first_at t.segments (pairs_of t leader c i) none_from k (omega arith) h in
        let none-with = strategy_at_lem (pairs_with t leader c i k) (rw (lt-ltb i k lt) at none_of) a s in
        only_none (another t c i a && (another t c k b && counts t leader c (give (give c i a) k b))) (give (give c i a) k b) (strategy_at_lem (pair t leader c i k a) none-with b v)

    pub single_le : (i j : ℕ) → 1 ≤ i → i ≤ t.segments → Allowed t i j → Keeps (give c i j) → total t (give c i j) ≤ total t c
    single_le i j l h ok w = known (eqb j (strategy_at c i)) refl
      where
        known : (x : Bool) → eqb j (strategy_at c i) ≡ x → total t (give c i j) ≤ total t c
        known true e = rw (eqb-true j (strategy_at c i) e, set-get_or c (i - 1) 0) (omega arith)
        known false e =
            no_rise (give c i j) (rw (another_yes i j ok (eqb-false j (strategy_at c i) e)) at (no_single i j l h (allowed_number t i j ok))) w

    rising_pair :
        (i k a b : ℕ) → 1 ≤ i → i < k → k ≤ t.segments → Allowed t i a → Allowed t k b → Keeps (give (give c i a) k b)
        → total t (give (give c i a) k b) ≤ total t c
    rising_pair i k a b l lt h oka okb w = known (eqb a (strategy_at c i)) refl (eqb b (strategy_at c k)) refl
      where
        known : (x : Bool) → eqb a (strategy_at c i) ≡ x → (y : Bool) → eqb b (strategy_at c k) ≡ y → total t (give (give c i a) k b) ≤ total t c
        known true e y f =
            let same : give c i a ≡ c = ap (give c i) (eqb-true a (strategy_at c i) e) ∙ set-get_or c (i - 1) 0 in
            rw same (single_le k b (omega arith) h okb (rw same at w))
        known false e true f =
            let old : b ≡ strategy_at (give c i a) k = eqb-true b (strategy_at c k) f ∙ sym (kept c i a k l (omega arith) (λ q. omega arith)) in
            let same : give (give c i a) k b ≡ give c i a = ap (give (give c i a) k) old ∙ set-get_or (give c i a) (k - 1) 0 in
            rw same (single_le i a l (omega arith) oka (rw same at w))
        known false e false f =
            let no = no_pair i k a b l lt h (allowed_number t i a oka) (allowed_number t k b okb) in
            no_rise (give (give c i a) k b)
            (rw (another_yes i a oka (eqb-false a (strategy_at c i) e), another_yes k b okb (eqb-false b (strategy_at c k) f)) at no) w

    -- two segments in any order, or one twice
    pub pair_le :
        (i k a b : ℕ) → 1 ≤ i → i ≤ t.segments → 1 ≤ k → k ≤ t.segments → Allowed t i a → Allowed t k b → Keeps (give (give c i a) k b)
        → total t (give (give c i a) k b) ≤ total t c
    pair_le i k a b l h lk hk oka okb w = known (ltb i k) refl (ltb k i) refl
      where
        known : (x : Bool) → ltb i k ≡ x → (y : Bool) → ltb k i ≡ y → total t (give (give c i a) k b) ≤ total t c
        known true e y f = rising_pair i k a b l (ltb-true i k e) hk oka okb w
        known false e true f =
            let below = ltb-true k i f in
            let swap : give (give c i a) k b ≡ give (give c k b) i a = set_comm c (i - 1) (k - 1) a b (λ q. omega arith) in
            rw swap (rising_pair k i b a lk below h okb oka (rw swap at w))
        known false e false f =
            let here : i ≡ k = omega (arith, ltb-false i k e, ltb-false k i f) in
            let same : give (give c i a) k b ≡ give c k b = rw here (set-set c (k - 1) a b) in
            rw same (single_le k b lk hk okb (rw same at w))
