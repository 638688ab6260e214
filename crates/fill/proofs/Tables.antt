-- The arrays filled from a district hold its table.
use Prim.Native.Nat.{ℕ, ◌+◌, ◌-◌, ◌*◌, ◌/◌, ◌%◌, ◌^◌, ◌≤◌, ◌<◌}
use mathlib.Core.Path.{◌≡◌, refl, ap, ap₂, fun_ext, ◌∙◌}
use mathlib.Core.Bool.{Bool, true, false, ◌&&◌, and-false}
use native.Mathlib.Omega.{arith}
use borrow.Author.Tests.{lt-leb}
use lib.Dec.{lit<}
use lib.ListN.{get_or}
use Rattle.base.specs.Choice.{pick}
use Rattle.base.specs.Over.{between}
use Rattle.std.proofs.lemmas.Bool.{and_parts}
use Rattle.base.proofs.Choice.{between_yes, between_in}
use Rattle.base.proofs.Each.{each_listed}
use Rattle.base.proofs.Listed.{listed_at, listed_length}
use Rattle.grammar.specs.Ranges.{Ranges}
use Rattle.rules.specs.District.{District, segments_of, strategies_of, resources_of, most_segments, most_strategies, most_resources}
use Rattle.rules.specs.Rating.{candidate}
use Rattle.rules.specs.Table.{has, candidate_benefit, usage_in, limit_in, table_of}
use Rattle.laws.specs.Tables.{FitAlone}
use Rattle.theorems.proofs.Entries.{table_fit}
use Rattle.tables.specs.declared.Size.{Size}
use Rattle.tables.specs.Arrays.{entry, use_entry, benefit_at, usage_at, limit_at, tables, Tabled, columns, entries, use_entries}
use Rattle.rating.specs.Numbers.{Segment, Resource}
use Rattle.rating.proofs.Entries.{has_within, resource_within, candidate_benefit_le, usage_in_le, limit_in_le}
use Rattle.fill.specs.Lists.{benefit_entry, benefit_list, usage_entry, usage_list, limit_list}

abbrev pub size_of : District → Size
size_of d = record { segments = segments_of d; strategies = strategies_of d; resources = resources_of d }

-- ---- each entry, at its place

module _ (d : District) where
  benefit_entry_lem : (i j : ℕ) → Segment i → j ≤ most_strategies → get_or (benefit_list d) (entry i j) 0 ≡ candidate_benefit d i j
  unfolding benefit_list benefit_entry
  benefit_entry_lem i j p q =
      let a : (0 + entry i j) / columns + 1 ≡ i = omega arith in
      let b : (0 + entry i j) % columns ≡ j = omega arith in
      listed_at entries 0 (entry i j) (benefit_entry d) (omega arith) ∙ ap₂ (candidate_benefit d) a b

  usage_entry_lem : (i j r : ℕ) → Segment i → j ≤ most_strategies → Resource r → get_or (usage_list d) (use_entry i j r) 0 ≡ usage_in d i j r
  unfolding usage_list usage_entry
  usage_entry_lem i j r p q s =
      let n = 0 + use_entry i j r in
      let a : n / (most_resources * columns) + 1 ≡ i = omega arith in
      let b : n / most_resources % columns ≡ j = omega arith in
      let c : n % most_resources + 1 ≡ r = omega arith in
      listed_at use_entries 0 (use_entry i j r) (usage_entry d) (omega arith) ∙ cc

  limit_entry : (r : ℕ) → Resource r → get_or (limit_list d) (r - 1) 0 ≡ limit_in d r
  unfolding limit_list
  limit_entry r p = let a : 1 + (r - 1) ≡ r = omega arith in listed_at most_resources 1 (r - 1) (limit_in d) (omega arith) ∙ ap (limit_in d) a

  -- ---- past the district's segments they are 0

  pub benefits_past : (n : ℕ) → columns * segments_of d ≤ n → benefit_entry d n ≡ 0
  unfolding benefit_entry candidate_benefit
  benefits_past n h = let i : segments_of d < n / columns + 1 = omega arith in simp (lt-leb (n / columns + 1) (segments_of d) i, and-false)

  pub uses_past : (n : ℕ) → most_resources * (columns * segments_of d) ≤ n → usage_entry d n ≡ 0
  unfolding usage_entry usage_in
  uses_past n h =
      let i : segments_of d < n / (most_resources * columns) + 1 = omega arith in
      simp (lt-leb (n / (most_resources * columns) + 1) (segments_of d) i, and-false)

-- ---- they are the table

-- what no array has, the district does not have
outside : (s t : Bool) (x : ℕ) → s ≡ false → (t ≡ true → s ≡ true) → 0 ≡ pick t x 0
outside s true x e f = absurd (let s = f refl in cc)
outside s false x e f = refl

module _ (d : District) (ok : Ranges d) where
  benefit_is : (i j : ℕ) → benefit_at (benefit_list d) i j ≡ candidate_benefit d i j
  unfolding benefit_at candidate_benefit
  benefit_is i j = go (between 1 most_segments i && between 1 most_strategies j) refl
    where
      go : (t : Bool) → (between 1 most_segments i && between 1 most_strategies j) ≡ t → pick t (get_or (benefit_list d) (entry i j) 0) 0 ≡ candidate_benefit d i j
      go true e =
          let w = and_parts (between 1 most_segments i) (between 1 most_strategies j) e in
          benefit_entry_lem d i j (between_in 1 most_segments i w.0) (between_in 1 most_strategies j w.1).1
      go false e =
          outside (between 1 most_segments i && between 1 most_strategies j) (has d i j && candidate d i j) _ e
          (λ h. let w = has_within d ok i j (and_parts (has d i j) (candidate d i j) h).0 in rw (between_yes 1 most_segments i w.0.0 w.0.1) (between_yes 1 most_strategies j w.1.0 w.1.1))

  usage_is : (i j r : ℕ) → usage_at (usage_list d) i j r ≡ usage_in d i j r
  unfolding usage_at usage_in
  usage_is i j r = go (between 1 most_segments i && (between 1 most_strategies j && between 1 most_resources r)) refl
    where
      go : (t : Bool) → (between 1 most_segments i && (between 1 most_strategies j && between 1 most_resources r)) ≡ t → pick t (get_or (usage_list d) (use_entry i j r) 0) 0 ≡ usage_in d i j r
      go true e =
          let v = and_parts (between 1 most_segments i) (between 1 most_strategies j && between 1 most_resources r) e in
          let w = and_parts (between 1 most_strategies j) (between 1 most_resources r) v.1 in
          usage_entry_lem d i j r (between_in 1 most_segments i v.0) (between_in 1 most_strategies j w.0).1 (between_in 1 most_resources r w.1)
      go false e =
          outside (between 1 most_segments i && (between 1 most_strategies j && between 1 most_resources r)) (has d i j && between 1 (resources_of d) r) _ e there
        where
          there : (has d i j && between 1 (resources_of d) r) ≡ true → (between 1 most_segments i && (between 1 most_strategies j && between 1 most_resources r)) ≡ true
          there h =
              let v = and_parts (has d i j) (between 1 (resources_of d) r) h in
              let w = has_within d ok i j v.0 in
              let x = resource_within d ok r v.1 in
              rw (between_yes 1 most_segments i w.0.0 w.0.1, between_yes 1 most_strategies j w.1.0 w.1.1) (between_yes 1 most_resources r x.0 x.1)

  limit_is : (r : ℕ) → limit_at (limit_list d) r ≡ limit_in d r
  unfolding limit_at limit_in
  limit_is r = go (between 1 most_resources r) refl
    where
      go : (t : Bool) → between 1 most_resources r ≡ t → pick t (get_or (limit_list d) (r - 1) 0) 0 ≡ limit_in d r
      go true e = limit_entry d r (between_in 1 most_resources r e)
      go false e = outside (between 1 most_resources r) (between 1 (resources_of d) r) _ e (λ h. let x = resource_within d ok r h in between_yes 1 most_resources r x.0 x.1)

  -- so what is proved of code over arrays is what the rules say of the district
  pub table_is : tables (size_of d) (benefit_list d) (usage_list d) (limit_list d) ≡ table_of d
  unfolding table_of
  table_is =
      let p : benefit_at (benefit_list d) ≡ candidate_benefit d = fun_ext λ i. fun_ext λ j. benefit_is i j in
      let q : usage_at (usage_list d) ≡ usage_in d = fun_ext λ i. fun_ext λ j. fun_ext λ r. usage_is i j r in
      let s : limit_at (limit_list d) ≡ limit_in d = fun_ext limit_is in
      cc

  pub tabled : Tabled (size_of d) (benefit_list d) (usage_list d) (limit_list d)
  unfolding benefit_list usage_list limit_list benefit_entry usage_entry candidate_benefit usage_in
  tabled =
      record {
        bounded = record { segments = ok.segments; strategies = ok.strategies; resources = ok.resources };
        benefits = record {
          places = listed_length (benefit_entry d) entries 0;
          small = each_listed (λ v. v < 2 ^ 40) 0 entries 0 (benefit_entry d) (lit< tt) (λ n _ _. omega (arith, candidate_benefit_le d ok (n / columns + 1) (n % columns)));
          nothing = λ i l h. benefit_entry_lem d i 0 (l, h) (omega arith) ∙ simp and-false;
        };
        uses = record {
          places = listed_length (usage_entry d) use_entries 0;
          small = each_listed (λ v. v < 2 ^ 41) 0 use_entries 0 (usage_entry d) (lit< tt) (λ n _ _. omega (arith, usage_in_le d ok (n / (most_resources * columns) + 1) (n / most_resources % columns) (n % most_resources + 1)));
          nothing = λ i r l h m u. usage_entry_lem d i 0 r (l, h) (omega arith) (m, u) ∙ simp and-false;
        };
        limits = record {
          places = listed_length (limit_in d) most_resources 1;
          small = each_listed (λ v. v < 2 ^ 47) 0 most_resources 1 (limit_in d) (lit< tt) (λ r _ _. omega (arith, limit_in_le d ok r));
        };
      }

  -- each candidate fits each limit alone
  pub fit_alone : FitAlone (tables (size_of d) (benefit_list d) (usage_list d) (limit_list d))
  fit_alone = rw table_is (table_fit d ok.segments)
