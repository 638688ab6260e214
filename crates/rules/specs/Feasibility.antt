-- Which programmes demand 3 and requests 7 and 8 of document 02 are about, computed: those of permitted strategies within the limits, be the
-- strategies candidates or not; and of these, as rivals, those that respect leaders of some benefit. A promise about programmes of candidates
-- alone would say less.
use Rattle.std.specs.Prelude.{ℕ, zero, suc, ◌≤◌, ◌≡◌, refl, Bool, true, false, ◌&&◌, List, [], ◌∷◌, map, pos, ◌≤ℤ◌, take}
use native.Mathlib.Omega.{arith}
use Rattle.std.proofs.lemmas.Bool.{false≢true}
use Rattle.rules.specs.District.{District, leader_of}
use Rattle.rules.specs.Rating.{candidate, within_limits, total_of}
use Rattle.rules.specs.Table.{table_of}
use Rattle.rules.specs.Phases.{strategy_at}
use Rattle.rules.specs.Plan.{programme_of}
use Rattle.rules.specs.Demands.{permitted_at, all_permitted, Feasible, leaders_respected, leader_worth, leaders_worth, Rival, Sound, strategy_in}
use Rattle.rules.specs.Writer.{Roads, minus, strategy, nothing_demanded, segment, barring, district_of, district_with_leaders}
use Rattle.rules.specs.Results.{result_of}
use Rattle.rules.specs.declared.Programme.{Programme}

-- strategies of benefit above 0, of 0 and below 0, each of which, given to both segments, uses up the limit; with the fourth on one of them it
-- is exceeded
abbrev pub three_benefits : Roads
three_benefits =
    record {
      years = 1;
      limits = 10 ∷ [];
      greatest = 20 ∷ [];
      strategies =
          strategy (1000 ∷ []) (pos 5) 100
          ∷ strategy (1000 ∷ []) (pos 0) 100
          ∷ strategy (1000 ∷ []) (minus 1) 100
          ∷ strategy (1001 ∷ []) (pos 5) 100
          ∷ [];
      pavements = nothing_demanded ∷ [];
      segments =
          barring (3 ∷ []) (segment 40 10 (5 ∷ []))
          ∷ segment 60 10 (5 ∷ [])
          ∷ [];
    }

abbrev pub district : District
district = district_of three_benefits

-- strategy 2 on segment 1 and strategy 3 on segment 2
abbrev pub harmful : ℕ → ℕ
harmful = strategy_at (2 ∷ 3 ∷ [])

pub no_candidates : candidate district 1 2 ∷ candidate district 2 3 ∷ [] ≡ false ∷ false ∷ []
unfolding result_of
no_candidates = refl

pub feasible : Feasible district harmful
unfolding result_of permitted_at all_permitted
feasible = record { permitted = refl; within = refl }

pub total : total_of district harmful ≡ minus 60_000
unfolding result_of
total = refl

-- nothing at all is feasible; a barred strategy, a number that no strategy has, and two strategies that fit alone but not together are not
abbrev pub tests : List ℕ → List Bool
tests c = all_permitted district (strategy_at c) ∷ within_limits district (strategy_at c) ∷ []

pub others :
    map tests ((0 ∷ 0 ∷ []) ∷ (3 ∷ 0 ∷ []) ∷ (0 ∷ 5 ∷ []) ∷ (1 ∷ 4 ∷ []) ∷ [])
    ≡ (true ∷ true ∷ []) ∷ (false ∷ true ∷ []) ∷ (false ∷ true ∷ []) ∷ (true ∷ false ∷ []) ∷ []
unfolding result_of permitted_at all_permitted
others = refl

-- ---- rivals: segment 1 leads segment 2

-- strategy 1 on segment 2 uses up the limit; strategies 2 and 3, of no benefit and of one below 0, use nothing
abbrev pub one_leads : Roads
one_leads =
    record {
      years = 1;
      limits = 6 ∷ [];
      greatest = 20 ∷ [];
      strategies = strategy (1000 ∷ []) (pos 5) 100 ∷ strategy (0 ∷ []) (pos 0) 100 ∷ strategy (0 ∷ []) (minus 1) 100 ∷ [];
      pavements = nothing_demanded ∷ [];
      segments = segment 40 10 (5 ∷ []) ∷ segment 60 10 (5 ∷ []) ∷ [];
    }

abbrev pub led : District
led = district_with_leaders one_leads (0 ∷ 1 ∷ [])

-- the programme shown; then segment 2 without its leader; a leader of no benefit, and of one below 0; and a segment that leads none with such a
-- strategy
abbrev pub programmes : List (List ℕ)
programmes = (1 ∷ 0 ∷ []) ∷ (0 ∷ 1 ∷ []) ∷ (2 ∷ 1 ∷ []) ∷ (3 ∷ 1 ∷ []) ∷ (1 ∷ 3 ∷ []) ∷ []

pub held : take 2 (programme_of (table_of led) (leader_of led)).strategies ≡ 1 ∷ 0 ∷ []
unfolding result_of
held = refl

-- feasible; leaders respected; each leader with nothing or some benefit
abbrev pub rival_tests : List ℕ → List Bool
rival_tests c =
    (all_permitted led (strategy_at c) && within_limits led (strategy_at c))
    ∷ leaders_respected led (strategy_at c)
    ∷ leaders_worth led (strategy_at c)
    ∷ []

pub tested :
    map rival_tests programmes
    ≡ (true ∷ true ∷ true ∷ [])
    ∷ (true ∷ false ∷ true ∷ [])
    ∷ (true ∷ true ∷ false ∷ [])
    ∷ (true ∷ true ∷ false ∷ [])
    ∷ (true ∷ true ∷ true ∷ [])
    ∷ []
unfolding result_of permitted_at all_permitted leaders_respected leader_worth leaders_worth
tested = refl

-- three of them have a greater total than the programme shown: they are no rivals
pub totals : map (λ c. total_of led (strategy_at c)) programmes ≡ map (λ x. pos x) (200_000 ∷ 300_000 ∷ 300_000 ∷ 260_000 ∷ 140_000 ∷ [])
unfolding result_of
totals = refl

pub rival : Rival led (strategy_at (1 ∷ 3 ∷ []))
unfolding result_of permitted_at all_permitted leaders_respected leader_worth leaders_worth
rival = record { feasible = record { permitted = refl; within = refl }; leaders = refl; worth = refl }

pub not_without_leader : Rival led (strategy_at (0 ∷ 1 ∷ [])) → ⊥
unfolding result_of leaders_respected
not_without_leader r = false≢true r.leaders

pub not_without_benefit : Rival led (strategy_at (2 ∷ 1 ∷ [])) → ⊥
unfolding result_of leader_worth leaders_worth
not_without_benefit r = false≢true r.worth

-- what is claimed of a programme for this district: its ceiling is compared with all of these, rivals or not, and it respects leaders itself
pub claimed : (p : Programme) → Sound led p → (total_of led (strategy_at (3 ∷ 1 ∷ [])) ≤ℤ pos p.ceiling) × (leaders_respected led (strategy_in p) ≡ true)
unfolding result_of permitted_at all_permitted
claimed p s = (s.ceiling (strategy_at (3 ∷ 1 ∷ [])) (record { permitted = refl; within = refl }), s.leaders)

-- where there are two segments every rival is one or two segments away, so none at all has a greater total
none_else : {P : Type 0} (m : ℕ) → 1 ≤ m → m ≤ 2 → ¬ (m ≡ 1) → ¬ (m ≡ 2) → P
none_else zero least most first second = absurd (omega arith)
none_else (suc zero) least most first second = absurd (first refl)
none_else (suc (suc zero)) least most first second = absurd (second refl)
none_else (suc (suc (suc m))) least most first second = absurd (omega arith)

pub two_segments_away : (p : Programme) → Sound led p → total_of led (strategy_at (1 ∷ 3 ∷ [])) ≤ℤ total_of led (strategy_in p)
unfolding result_of
two_segments_away p s = s.neighbours (strategy_at (1 ∷ 3 ∷ [])) rival 1 2 (record { elsewhere = λ m least most first second. none_else m least most first second })
