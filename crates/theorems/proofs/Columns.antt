-- What stands on a page has room in its column, and benefits and uses are the rules' own. The widest figures: a total is at most 64 of the
-- greatest benefits, 14 digits, and a sum of uses at most its limit, 9 digits.
use Prim.Native.Nat.{ℕ, zero, suc, ◌+◌, ◌/◌, ◌%◌, ◌^◌, ◌≤◌, ◌<◌}
use mathlib.Core.Path.{◌≡◌, refl, sym}
use mathlib.Core.Bool.{Bool, true, false, ◌&&◌}
use mathlib.Core.List.{List, [], ◌∷◌, ◌++◌}
use native.Mathlib.Omega.{arith}
use borrow.Author.Tests.{leb-true}
use lib.Dec.{leb}
use lib.IntN.{pos}
use lib.ListN.{length, get_or, length-append}
use Rattle.base.specs.Choice.{pick}
use Rattle.base.specs.Over.{sum, listed, listed_from}
use Rattle.base.specs.Search.{Run}
use Rattle.base.specs.Text.{text, decimal}
use Rattle.base.proofs.All.{all_at}
use Rattle.std.proofs.lemmas.Bool.{and_parts}
use Rattle.base.proofs.Digits.{decimal_within, decimal_each}
use Rattle.base.proofs.Each.{Each, each_none, each_cons, each_append, each_listed}
use Rattle.base.proofs.Sums.{sum_bound, sum_part}
use Rattle.rules.specs.District.{District, most_segments, most_strategies, segments_of, strategies_of, resources_of, limit_of, length_of, width_of, leader_of}
use Rattle.rules.specs.Rating.{benefit, usage, scaled_limit, usage_by}
use Rattle.rules.specs.Table.{candidate_benefit, table_of}
use Rattle.rules.specs.Phases.{strategy_at, chosen_benefit, total, chosen_usage, used, holds, within}
use Rattle.rules.specs.Plan.{improved, programme_from}
use Rattle.rules.specs.Page.{widths, miles, whole_units, by_resource, heading, segment_row, total_row, limits_row, rows}
use Rattle.rules.specs.Demands.{strategy_in}
use Rattle.rules.specs.declared.Programme.{Programme}
use Rattle.laws.specs.Tables.{OfCandidates}
use Rattle.laws.proofs.Gives.{candidates_numbers}
use Rattle.laws.proofs.Page.{rows_length}
use Rattle.theorems.specs.Columns.{Character, Figures, OnPage}
use Rattle.theorems.proofs.Lines.{Plain, blank, lines_of}
use Rattle.theorems.proofs.Entries.{usage_is, limit_is, table_fit}
use Rattle.theorems.proofs.Totals.{Numbers, uses_are, benefit_is}
use Rattle.theorems.proofs.Programmes.{Begins}
use Rattle.theorems.proofs.Programmes as programmes

-- ---- figures

module _ (d : District) (few : segments_of d ≤ most_segments) (begun : Run (List ℕ)) (begins : Begins (table_of d) (leader_of d) begun) where
  candidates : OfCandidates (table_of d) (improved (table_of d) (leader_of d) begun).last
  candidates = programmes.improved_candidates (table_of d) (leader_of d) (table_fit d few) begun begins

  strategies_are : Numbers d (strategy_in (programme_from (table_of d) (leader_of d) begun))
  unfolding programme_from table_of
  strategies_are = candidates_numbers (table_of d) (improved (table_of d) (leader_of d) begun).last candidates

  benefits_are :
      (i : ℕ) → 1 ≤ i → i ≤ segments_of d
      → pos (chosen_benefit (table_of d) (programme_from (table_of d) (leader_of d) begun).strategies i) ≡ benefit d i (strategy_in (programme_from (table_of d) (leader_of d) begun) i)
  unfolding programme_from chosen_benefit table_of
  benefits_are i l h =
      let c = strategy_at (improved (table_of d) (leader_of d) begun).last in
      sym (benefit_is d c candidates.each i (c i) l h (candidates.each i l h))

  use_is :
      (i r : ℕ) → 1 ≤ i → i ≤ segments_of d → 1 ≤ r → r ≤ resources_of d
      → chosen_usage (table_of d) (programme_from (table_of d) (leader_of d) begun).strategies r i ≡ usage d i (strategy_in (programme_from (table_of d) (leader_of d) begun) i) r
  unfolding chosen_usage
  use_is i r l h lr hr = usage_is d i (strategy_in (programme_from (table_of d) (leader_of d) begun) i) r l h (strategies_are i l h) lr hr

  sum_is :
      (r : ℕ) → 1 ≤ r → r ≤ resources_of d
      → used (table_of d) (programme_from (table_of d) (leader_of d) begun).strategies r ≡ sum (segments_of d) (usage_by d (strategy_in (programme_from (table_of d) (leader_of d) begun)) r)
  unfolding used chosen_usage table_of
  sum_is r lr hr = sym (uses_are d (strategy_in (programme_from (table_of d) (leader_of d) begun)) strategies_are r lr hr)

  -- a sum is within its limit, and so is each use of it
  sum_within : (r : ℕ) → 1 ≤ r → r ≤ resources_of d → used (table_of d) (programme_from (table_of d) (leader_of d) begun).strategies r ≤ scaled_limit d r
  unfolding programme_from within holds table_of
  sum_within r lr hr =
      let t = table_of d in
      let c = (improved t (leader_of d) begun).last in
      rw (limit_is d r lr hr) at (leb-true (used t c r) (t.limit r) (all_at (resources_of d) (holds t c) (programmes.improved_within t (leader_of d) (table_fit d few) begun begins) r lr hr))

  use_within :
      (i r : ℕ) → 1 ≤ i → i ≤ segments_of d → 1 ≤ r → r ≤ resources_of d
      → chosen_usage (table_of d) (programme_from (table_of d) (leader_of d) begun).strategies r i ≤ scaled_limit d r
  unfolding used table_of
  use_within i r l h lr hr =
      omega (arith, sum_within r lr hr, sum_part (segments_of d) (chosen_usage (table_of d) (programme_from (table_of d) (leader_of d) begun).strategies r) i l h)

  figures : Figures d (programme_from (table_of d) (leader_of d) begun)
  figures = record { benefits = benefits_are; uses = use_is; sums = sum_is }

-- ---- a text that has room in w characters

record Cell (w : ℕ) (bs : List ℕ) : Type 0 where
  room : length bs ≤ w
  plain : Plain bs

-- each text of a row in its column
record Fits (ws : List ℕ) (row : List (List ℕ)) : Type 0 where
  cells : (n : ℕ) → Cell (get_or ws n 0) (get_or row n [])

none : Plain []
none = each_none Character 32 blank

empty : {w : ℕ} → Cell w []
empty = record { room = omega arith; plain = none }

fits_none : {ws : List ℕ} → Fits ws []
fits_none = record { cells = λ n. empty }

fits_cons : {w : ℕ} {ws bs : List ℕ} {row : List (List ℕ)} → Cell w bs → Fits ws row → Fits (w ∷ ws) (bs ∷ row)
fits_cons {w} {ws} {bs} {row} c f = record { cells = go }
  where
    go : (n : ℕ) → Cell (get_or (w ∷ ws) n 0) (get_or (bs ∷ row) n [])
    go zero = c
    go (suc n) = f.cells n

number : {w n : ℕ} → 1 ≤ w → n < 10 ^ w → Cell w (decimal n)
number {w} {n} h l =
    record {
      room = decimal_within w n h l;
      plain = decimal_each Character 32 blank (λ x u. (omega arith, omega arith)) n;
    }

mile_cell : (n : ℕ) → n ≤ 9_999 → Cell 5 (miles n)
unfolding miles text
mile_cell n h =
    let hundredths : List ℕ = (48 + n / 10 % 10) ∷ (48 + n % 10) ∷ [] in
    let whole : Cell 2 (decimal (n / 100)) = number (omega arith) (omega arith) in
    record {
      room = omega (arith, whole.room, length-append (decimal (n / 100)) (46 ∷ hundredths));
      plain =
          each_append Character 32 (decimal (n / 100)) (46 ∷ hundredths) whole.plain
          (one 46 hundredths (omega arith) (omega arith)
          (one (48 + n / 10 % 10) ((48 + n % 10) ∷ []) (omega arith) (omega arith)
          (one (48 + n % 10) [] (omega arith) (omega arith) none)));
    }
  where
    one : (b : ℕ) (bs : List ℕ) → 32 ≤ b → b ≤ 126 → Plain bs → Plain (b ∷ bs)
    one b bs l u p = each_cons Character 32 b bs (l, u) p

-- a number for each of four resources
module _ (d : District) (f : ℕ → ℕ) (most : (r : ℕ) → 1 ≤ r → r ≤ resources_of d → f r ≤ 999_999_999) where
  resource : (r : ℕ) → 1 ≤ r → Cell 9 (pick (leb r (resources_of d)) (decimal (f r)) [])
  resource r l = known (leb r (resources_of d)) refl
    where
      known : (t : Bool) → leb r (resources_of d) ≡ t → Cell 9 (pick t (decimal (f r)) [])
      known true e = number (omega arith) (omega (arith, most r l (leb-true r (resources_of d) e)))
      known false e = empty

  resources_fit : Fits (9 ∷ 9 ∷ 9 ∷ 9 ∷ []) (by_resource d f)
  unfolding by_resource listed_from
  resources_fit =
      fits_cons (resource 1 (omega arith))
      (fits_cons (resource 2 (omega arith))
      (fits_cons (resource 3 (omega arith))
      (fits_cons (resource 4 (omega arith)) fits_none)))

-- ---- the heading

-- a text that is known, by computing
abbrev fine : List ℕ → Bool
fine [] = true
fine (b ∷ bs) = leb 32 b && (leb b 126 && fine bs)

fine_plain : (bs : List ℕ) → fine bs ≡ true → Plain bs
fine_plain [] e = none
fine_plain (b ∷ bs) e =
    let t = and_parts (leb 32 b) (leb b 126 && fine bs) e in
    let u = and_parts (leb b 126) (fine bs) t.1 in
    each_cons Character 32 b bs (leb-true 32 b t.0, leb-true b 126 u.0) (fine_plain bs u.1)

word : {w : ℕ} (bs : List ℕ) → (leb (length bs) w && fine bs) ≡ true → Cell w bs
word {w} bs e =
    let t = and_parts (leb (length bs) w) (fine bs) e in
    record { room = leb-true (length bs) w t.0; plain = fine_plain bs t.1 }

heading_fits : Fits widths heading
unfolding heading text
heading_fits =
    fits_cons (word (text "NO") refl)
    (fits_cons (word (text "MILES") refl)
    (fits_cons (word (text "FT") refl)
    (fits_cons (word (text "ST") refl)
    (fits_cons (word (text "BENEFIT") refl)
    (fits_cons (word (text "R1") refl)
    (fits_cons (word (text "R2") refl)
    (fits_cons (word (text "R3") refl)
    (fits_cons (word (text "R4") refl) fits_none))))))))

-- ---- the rows of a district

-- what has to be known of it: the file's ranges, and how great a benefit can be
pub record Narrow (d : District) : Type 0 where
  pub segments : segments_of d ≤ most_segments
  pub strategies : strategies_of d ≤ most_strategies
  pub lengths : (i : ℕ) → 1 ≤ i → i ≤ most_segments → length_of d i ≤ 9_999
  pub widths : (i : ℕ) → 1 ≤ i → i ≤ most_segments → width_of d i ≤ 200
  pub limits : (r : ℕ) → 1 ≤ r → r ≤ resources_of d → limit_of d r ≤ 999_999_999
  pub benefits : (i j : ℕ) → candidate_benefit d i j ≤ 899_910_000_000

module _ (d : District) (ok : Narrow d) (begun : Run (List ℕ)) (begins : Begins (table_of d) (leader_of d) begun) where
  abbrev programme : Programme
  programme = programme_from (table_of d) (leader_of d) begun

  -- a use within the limit, rounded up to whole units
  rounded_le : (x r : ℕ) → 1 ≤ r → r ≤ resources_of d → x ≤ scaled_limit d r → whole_units x ≤ 999_999_999
  unfolding scaled_limit
  rounded_le x r l h u = let n = ok.limits r l h in omega arith

  segment_fits : (i : ℕ) → 1 ≤ i → i ≤ segments_of d → Fits widths (segment_row d programme.strategies i)
  unfolding segment_row chosen_benefit table_of
  segment_fits i l h =
      let few = ok.segments in
      let n = ok.strategies in
      let j = strategies_are d few begun begins i l h in
      let c = programme.strategies in
      fits_cons (number (omega arith) (omega arith))
      (fits_cons (mile_cell (length_of d i) (ok.lengths i l (omega arith)))
      (fits_cons (number (omega arith) (omega (arith, ok.widths i l (omega arith))))
      (fits_cons (number (omega arith) (omega arith))
      (fits_cons (number (omega arith) (omega (arith, ok.benefits i (strategy_at c i))))
      (resources_fit d (λ r. whole_units (chosen_usage (table_of d) c r i)) (λ r lr hr. rounded_le (chosen_usage (table_of d) c r i) r lr hr (use_within d few begun begins i r l h lr hr)))))))

  total_le : programme.total ≤ 57_594_240_000_000
  unfolding programme_from total chosen_benefit table_of
  total_le =
      let n = ok.segments in
      let c = (improved (table_of d) (leader_of d) begun).last in
      omega (arith, sum_bound (segments_of d) 899_910_000_000 (chosen_benefit (table_of d) c) (λ i l h. ok.benefits i (strategy_at c i)))

  total_fits : Fits widths (total_row d programme)
  unfolding total_row
  total_fits =
      let few = ok.segments in
      let c = programme.strategies in
      fits_cons empty (fits_cons empty (fits_cons empty (fits_cons empty
      (fits_cons (number (omega arith) (omega (arith, total_le)))
      (resources_fit d (λ r. whole_units (used (table_of d) c r)) (λ r lr hr. rounded_le (used (table_of d) c r) r lr hr (sum_within d few begun begins r lr hr)))))))

  limits_fit : Fits widths (limits_row d)
  unfolding limits_row
  limits_fit =
      fits_cons empty (fits_cons empty (fits_cons empty (fits_cons empty (fits_cons empty (resources_fit d (limit_of d) ok.limits)))))

  rows_fit : Each (Fits widths) [] (rows d programme)
  unfolding rows
  rows_fit =
      let few = ok.segments in
      let segments = listed (segments_of d) (segment_row d programme.strategies) in
      each_cons (Fits widths) [] heading (segments ++ (total_row d programme ∷ limits_row d ∷ [])) heading_fits
      (each_append (Fits widths) [] segments (total_row d programme ∷ limits_row d ∷ [])
      (each_listed (Fits widths) [] (segments_of d) 1 (segment_row d programme.strategies) fits_none (λ i l h. segment_fits i l (omega arith)))
      (each_cons (Fits widths) [] (total_row d programme) (limits_row d ∷ []) total_fits
      (each_cons (Fits widths) [] (limits_row d) [] limits_fit (each_none (Fits widths) [] fits_none))))

  pub on_page : OnPage d programme
  on_page =
      record {
        lined = rw (← rows_length d programme) (lines_of (rows d programme) (λ m n. ((rows_fit m).cells n).plain));
        room = λ m n. ((rows_fit m).cells n).room;
        figures = figures d ok.segments begun begins;
      }
