-- Laws of the memory's rows: what a row of the memory gives, and what the memory holds when a row is made anew.
use Prim.Native.Nat.{ℕ, ◌-◌, ◌≤◌, ◌<◌}
use mathlib.Core.Path.{◌≡◌, refl, ◌∙◌}
use mathlib.Core.Bool.{Bool, true, false, ◌&&◌}
use mathlib.Core.List.{List, []}
use Rattle.std.specs.Prelude.{Option, None, Some}
use native.Mathlib.Omega.{arith}
use mathlib.Core.Logic.{◌⊎◌, inl, inr}
use borrow.Author.Tests.{ltb-true, leb-true, leb-false, eqb-true, eqb-false}
use lib.Dec.{eqb, leb}
use Rattle.base.specs.Choice.{pick}
use lib.ListN.{get_or, set, length, replicate, length-replicate, length-set}
use lib.Seq.{get_or-set_same, get_or-set_other}
use Rattle.base.proofs.All.{all_at}
use Rattle.std.proofs.lemmas.Bool.{and_parts}
use Rattle.std.proofs.lemmas.List.{get_or-replicate}
use Rattle.base.specs.Over.{all}
use Rattle.rules.specs.District.{most_segments}
use Rattle.rules.specs.Table.{Table}
use Rattle.rules.specs.Phases.{strategy_at, pairs_of}
use Rattle.tables.specs.declared.Size.{Size}
use Rattle.tables.specs.Arrays.{tables, Running}
use Rattle.tables.proofs.Arrays.{limit_at_lem}
use Rattle.tables.proofs.Moves.{places}
use Rattle.phase3.specs.declared.memory.Row.{Row}
use Rattle.phase3.specs.Memory.{half, place, row_of, same_strategies, Slacks, Holds, numbers, unused, Remembers, below}

-- ---- where rows stand

abbrev Placed : ℕ → ℕ → ℕ × ℕ → Type 0
Placed i k p = ((i ≤ half) × (p.0 ≡ i - 1) × (p.1 ≡ k - 1)) ⊎ ((half < i) × (p.0 ≡ most_segments - i) × (p.1 ≡ most_segments - k))

placed : (i k : ℕ) → Placed i k (place i k)
placed i k = go (leb i half) refl
  where
    go : (b : Bool) → leb i half ≡ b → Placed i k (pick b (i - 1, k - 1) (most_segments - i, most_segments - k))
    go true e = inl (leb-true i half e, refl, refl)
    go false e = inr (omega (arith, leb-false i half e), refl, refl)

module _ (i k : ℕ) (low : 1 ≤ i) (above : i < k) (high : k ≤ most_segments) where
  place_room : ((place i k).0 < half) × ((place i k).1 < most_segments)
  place_room = go (placed i k)
    where
      go : Placed i k (place i k) → ((place i k).0 < half) × ((place i k).1 < most_segments)
      go (inl h) = (omega (arith, h), omega (arith, h))
      go (inr h) = (omega (arith, h), omega (arith, h))

  place_one : (i₂ k₂ : ℕ) → 1 ≤ i₂ → i₂ < k₂ → k₂ ≤ most_segments → (place i₂ k₂).0 ≡ (place i k).0 → (place i₂ k₂).1 ≡ (place i k).1 → (i₂ ≡ i) × (k₂ ≡ k)
  place_one i₂ k₂ low₂ above₂ high₂ first second = go (placed i k) (placed i₂ k₂)
    where
      go : Placed i k (place i k) → Placed i₂ k₂ (place i₂ k₂) → (i₂ ≡ i) × (k₂ ≡ k)
      go (inl h) (inl g) = (omega (arith, h, g, first, second), omega (arith, h, g, first, second))
      go (inl h) (inr g) = absurd (omega (arith, h, g, first, second))
      go (inr h) (inl g) = absurd (omega (arith, h, g, first, second))
      go (inr h) (inr g) = (omega (arith, h, g, first, second), omega (arith, h, g, first, second))

-- rows that hold for none
pub remembers_start : (t : Table) (leader : ℕ → ℕ) (row : Row) {rows : List (List Row)} → row.holds_for ≡ None → t.segments ≤ most_segments
    → length rows ≡ half → ((i : ℕ) → i < half → get_or rows i [] ≡ replicate most_segments row) → Remembers t leader rows
remembers_start t leader row {rows} none many long line =
    record {
      places = long;
      places_of = λ i l. rw (line i l) (length-replicate most_segments row);
      each = λ i k low above high x y m.
          let room = place_room i k low above (omega (arith, many)) in
          let z : (row_of rows i k).holds_for ≡ None =
          rw (line (place i k).0 room.0, get_or-replicate most_segments (place i k).1 row unused room.1) none in
          cc;
    }

module _ {t : Table} {leader : ℕ → ℕ} {rows : List (List Row)} (holds : Remembers t leader rows) (many : t.segments ≤ most_segments) where
  -- the row of segments i and k is made anew, and holds
  module _ (i k : ℕ) (low : 1 ≤ i) (above : i < k) (high : k ≤ t.segments) (row : Row) (new : Holds t leader i k row) where
    abbrev n : ℕ
    n = (place i k).0

    abbrev m : ℕ
    m = (place i k).1

    abbrev line : List Row
    line = set (get_or rows n []) m row

    pub remembers_set : Remembers t leader (set rows n line)
    remembers_set =
        record {
          places = length-set rows n line ∙ holds.places;
          places_of = λ j l. places_at j l (eqb j n) refl;
          each = λ i₂ k₂ low₂ above₂ high₂. go i₂ k₂ low₂ above₂ high₂ (eqb (place i₂ k₂).0 n) refl (eqb (place i₂ k₂).1 m) refl;
        }
      where
        room : (n < half) × (m < most_segments)
        room = place_room i k low above (omega (arith, many))

        first : n < length rows
        first = omega (arith, holds.places, room)

        second : m < length (get_or rows n [])
        second = omega (arith, holds.places_of n room.0, room)

        places_at : (j : ℕ) → j < half → (b : Bool) → eqb j n ≡ b → length (get_or (set rows n line) j []) ≡ most_segments
        places_at j l true e = rw (eqb-true j n e, get_or-set_same rows n line [] first) (length-set (get_or rows n []) m row ∙ holds.places_of n room.0)
        places_at j l false e = rw (get_or-set_other rows n j line [] (eqb-false j n e)) (holds.places_of j l)

        go : (i₂ k₂ : ℕ) → 1 ≤ i₂ → i₂ < k₂ → k₂ ≤ t.segments → (b : Bool) → eqb (place i₂ k₂).0 n ≡ b → (d : Bool) → eqb (place i₂ k₂).1 m ≡ d → Holds t leader i₂ k₂ (row_of (set rows n line) i₂ k₂)
        go i₂ k₂ low₂ above₂ high₂ true e true f =
            let en = eqb-true (place i₂ k₂).0 n e in
            let em = eqb-true (place i₂ k₂).1 m f in
            let one = place_one i k low above (omega (arith, many)) i₂ k₂ low₂ above₂ (omega (arith, many)) en em in
            rw (en, em, get_or-set_same rows n line [] first, get_or-set_same (get_or rows n []) m row unused second, one.0, one.1) new
        go i₂ k₂ low₂ above₂ high₂ true e false f =
            let en = eqb-true (place i₂ k₂).0 n e in
            rw (en, get_or-set_same rows n line [] first, get_or-set_other (get_or rows n []) m (place i₂ k₂).1 row unused (eqb-false (place i₂ k₂).1 m f))
            (rw en at (holds.each i₂ k₂ low₂ above₂ high₂))
        go i₂ k₂ low₂ above₂ high₂ false e d f =
            rw (get_or-set_other rows n (place i₂ k₂).0 line [] (eqb-false (place i₂ k₂).0 n e)) (holds.each i₂ k₂ low₂ above₂ high₂)

under : (slacks : List ℕ) (row : Row) (r : ℕ) → below slacks row r ≡ true → get_or slacks (r - 1) 0 < numbers row r
unfolding below
under slacks row r q = ltb-true (get_or slacks (r - 1) 0) (numbers row r) q

-- a row for the strategies that segments i and k have, with every slack below its number, passes them over
module _ {z : Size} {leader : ℕ → ℕ} (p : List ℕ) {u l c sums slacks : List ℕ} {rows : List (List Row)} (holds : Remembers (tables z p u l) leader rows) (running : Running z u c sums)
    (are : Slacks z.resources l sums slacks) (i k : ℕ) (low : 1 ≤ i) (above : i < k) (high : k ≤ z.segments) where
  abbrev row : Row
  row = row_of rows i k

  same : (o : Option (ℕ × ℕ)) (x y : ℕ) → same_strategies o x y ≡ true → o ≡ Some (x, y)
  same None x y q = cc
  same (Some s) x y q =
      let parts = and_parts (eqb s.0 x) (eqb s.1 y) q in
      let ex : s.0 ≡ x = eqb-true s.0 x parts.0 in
      let ey : s.1 ≡ y = eqb-true s.1 y parts.1 in
      rw (← ex, ← ey)

  pub still_none : same_strategies row.holds_for (strategy_at c i) (strategy_at c k) && all z.resources (below slacks row) ≡ true → pairs_of (tables z p u l) leader c i k ≡ None
  still_none e =
      let parts = and_parts (same_strategies row.holds_for (strategy_at c i) (strategy_at c k)) (all z.resources (below slacks row)) e in
      holds.each i k low above high (strategy_at c i) (strategy_at c k)
      (same row.holds_for (strategy_at c i) (strategy_at c k) parts.0)
      c
      (record {
        places = places running;
        first = refl;
        second = refl;
        short = λ r lr hr.
            omega (
              arith,
              under slacks row r (all_at z.resources (below slacks row) parts.1 r lr hr),
              are.each r lr hr,
              running.sums_are p l r lr hr,
              limit_at_lem l r lr (omega (arith, running.bounded.resources)),
            );
      })
