-- A case and what it comes to: numbers that a theorem can compute. A theorem that unfolds `result_of` unfolds all the rules with it, those
-- that its `unfolding` names, file by file.
use Rattle.std.specs.Prelude.{ℕ, ◌≡◌, take, ℤ, pos}
use Prim.Native.String.{String}
use mathlib.Core.List.{List, [], ◌∷◌, ◌++◌, map, foldr}
use Rattle.rules.specs.declared.Choice.{Choice}
use Rattle.rules.specs.declared.Unit.{Unit}
use Rattle.rules.specs.declared.Programme.{Programme}
use Rattle.rules.specs.Calls.{Why}
use Rattle.base.specs.Choice.{pick}
use Rattle.rules.specs.Answers.{Accepted, Refused}
use Rattle.base.specs.Bits
use Rattle.base.specs.Over
use Rattle.base.specs.Search
use Rattle.base.specs.Text
use Rattle.rules.specs.District
use Rattle.rules.specs.Format
use Rattle.rules.specs.File
use Rattle.rules.specs.Rating
use Rattle.rules.specs.Table
use Rattle.rules.specs.Phases
use Rattle.rules.specs.Ceiling
use Rattle.rules.specs.Plan
use Rattle.rules.specs.Blocks
use Rattle.rules.specs.Page
use Rattle.rules.specs.Reasons
use Rattle.rules.specs.Answers
use Rattle.rules.specs.Calls
use Rattle.rules.specs.Survey
use Rattle.rules.specs.Lists
use Rattle.rules.specs.Writer

-- what is shown, the page, why for each strategy of each segment, or what segment 1 comes to under strategy 1 for distress 1: its rating in year
-- 0; ratings, and survivals, in years 1 to T; the effect
pub data Question : Type 0 where
  Shown : Question
  Paged : Question
  Whys : Question
  InitialRating : Question
  Ratings : Question
  Survivals : Question
  Effect : Question

pub record Case : Type 0 where
  pub question : Question
  pub unit : Unit

-- asked after calls on a fresh unit
abbrev pub after : Question → List Lists.Call → Case
after q cs = record { question = q; unit = Lists.unit_after cs }

abbrev pub shown : List Lists.Call → Case
shown cs = after Shown cs

abbrev pub paged : List Lists.Call → Case
paged cs = after Paged cs

-- asked without a call of a unit that holds a district in the file's ranges, with the plan for it
unfoldable pub holding : District.District → Unit
holding d =
    record { district = d; choice = Blocks.no_blocks; programme = Plan.programme_of (Table.table_of d) (District.leader_of d) }

-- the same with the plan by blocks
unfoldable pub holding_by : Choice → District.District → Unit
holding_by x d = record { district = d; choice = x; programme = Blocks.programme_by x d }

abbrev pub given : Question → District.District → Case
given q d = record { question = q; unit = holding d }

abbrev pub planned : Writer.Roads → Case
planned d = given Shown (Writer.district_of d)

-- by the row of a choice
abbrev pub in_blocks : List ℕ → District.District → Case
in_blocks row d = record { question = Shown; unit = holding_by (Blocks.choice_of row) d }

abbrev pub whys : District.District → Case
whys d = given Whys d

-- what is shown: a strategy for each segment; total, total after phase 2, ceiling; steps, pick-ups, changes
abbrev pub shows : List ℕ → ℕ → ℕ → ℕ → ℕ → ℕ → ℕ → List ℤ
shows strategies total after_pick_ups ceiling steps pick_ups changes =
    map (λ x. pos x) (strategies ++ (total ∷ after_pick_ups ∷ ceiling ∷ steps ∷ pick_ups ∷ changes ∷ []))

unfoldable pub shown_by : ℕ → Programme → List ℤ
shown_by n p =
    shows (take n p.strategies) p.total p.after_pickups p.ceiling p.steps p.pickups p.changes

-- a page by its lines
abbrev pub printed : List String → List ℤ
printed lines = map (λ b. pos b) (foldr (λ s rest. Text.text s ++ (10 ∷ rest)) [] lines)

-- lists of numbers in a row
abbrev pub in_row : List (List ℕ) → List ℤ
in_row rows = map (λ x. pos x) (Writer.each (λ row. row) rows)

-- an answer in numbers: a reason that holds, or 0 and the refusal
unfoldable pub answered_in : Unit → ℕ → ℕ → Why → List ℕ
answered_in u i j (Accepted reason) =
    pick (Reasons.holds u.district u.programme.strategies i j reason) (Reasons.told reason) []
answered_in u i j (Refused n) = 0 ∷ n ∷ []

unfoldable pub why_in : Unit → ℕ → ℕ → List ℕ
why_in u i j = answered_in u i j (Calls.why_of u i j)

-- the same where nothing refuses the question and the district is in the file's ranges
unfoldable pub reason_in : Unit → ℕ → ℕ → List ℕ
reason_in u i j = answered_in u i j (Accepted (Reasons.or_last (Reasons.hindrance u.district u.programme.strategies i j)))

-- for each strategy of each segment, in a row
unfoldable pub for_each : Unit → (ℕ → ℕ → List ℕ) → List ℤ
for_each u f =
    in_row (Over.listed (District.segments_of u.district)
    (λ i. Writer.each (λ row. row) (Over.listed (District.strategies_of u.district) (f i))))

unfoldable pub result_in : Question → Unit → List ℤ
result_in Shown u = shown_by (District.segments_of u.district) (Calls.show_of u)
result_in Paged u = map (λ b. pos b) (Page.page u.district (Calls.show_of u))
result_in Whys u = for_each u (reason_in u)
result_in InitialRating u = Rating.rating u.district 1 1 1 0 ∷ []
result_in Ratings u = Over.listed (District.years_of u.district) (Rating.rating u.district 1 1 1)
result_in Survivals u = Over.listed (District.years_of u.district) (λ t. pos (Rating.survival u.district 1 1 1 t))
result_in Effect u = Rating.effect u.district 1 1 ∷ []

unfoldable pub result_of : Case → List ℤ
unfolding
    holding holding_by shown_by answered_in why_in reason_in for_each result_in
    Writer.file_of Writer.file_with_leaders Writer.district_with_leaders
    Bits.set_bit Bits.clear_bit
    Over.sum Over.sum_z Over.all Over.most Over.better_of Over.best Over.min_z Over.max_z Over.listed_from
    Search.first Search.run
    Text.text Text.digits_of Text.decimal
    District.limit_of District.greatest_of District.requirement_of District.gain_of District.percent_of District.overall_of District.minimum_of
    District.pavement_of District.traffic_of District.environment_of District.length_of District.width_of District.bars_of District.barred_in
    District.rating_of District.leader_of District.fresh_district
    Format.ranged Format.field_at
    File.read_numbers File.read_record File.read_records File.decode_as File.decode File.number_bytes File.records_bytes File.encode_as File.leaderless
    File.form_of File.encode File.numbers_in_range
    File.records_in_range File.in_range
    Rating.capped_gain Rating.gain Rating.survival Rating.improvement Rating.rating Rating.both_ends Rating.credit Rating.credits
    Rating.effect Rating.area Rating.benefit Rating.usage Rating.scaled_limit Rating.reaches Rating.minimum_reached Rating.years_reached Rating.minima_reached Rating.first_rating
    Rating.overall_reached Rating.permitted Rating.fits_limit Rating.fits_alone Rating.candidate Rating.usage_by Rating.within_limit
    Rating.within_limits Rating.benefit_by Rating.total_of
    Table.candidate_benefit Table.usage_in Table.limit_in Table.table_of
    Phases.is_candidate Phases.greater Phases.chosen_benefit Phases.total Phases.chosen_usage Phases.used Phases.holds Phases.within
    Phases.led Phases.heeds Phases.respects Phases.pruned Phases.top_candidate Phases.bests Phases.start Phases.share Phases.chosen_share Phases.surplus Phases.pull_by
    Phases.pull Phases.pulls Phases.ratio
    Phases.lesser_ratio Phases.weakest Phases.comes_after Phases.next_candidate Phases.step_down Phases.step Phases.phase1 Phases.fitting
    Phases.offer Phases.offer_benefit Phases.vacant Phases.greater_offer Phases.best_offer Phases.picked_up Phases.pick_up Phases.phase2
    Phases.another Phases.counts Phases.single Phases.pair Phases.first_strategy Phases.singles_of Phases.first_single Phases.pairs_with
    Phases.pairs_of Phases.pairs_from Phases.first_pair Phases.change Phases.phase3
    Ceiling.down_share Ceiling.cost_by Ceiling.cost Ceiling.net Ceiling.margin Ceiling.ceiling_at Ceiling.priced Ceiling.priced_all
    Ceiling.prices_after Ceiling.ceiling
    Plan.reduced Plan.filled Plan.improved Plan.programme_from Plan.programme_of Plan.no_programme
    Blocks.choice_of Blocks.no_blocks Blocks.blocks_in Blocks.number_in Blocks.in_block Blocks.end_of Blocks.is_row Blocks.in_order Blocks.covering
    Blocks.part_in Blocks.parts_fit Blocks.led_inside Blocks.leaders_inside Blocks.followed Blocks.with_parts Blocks.barred_outside
    Blocks.block_district Blocks.block_table Blocks.block_reduced Blocks.block_list Blocks.block_steps Blocks.block_total Blocks.joined
    Blocks.by_blocks Blocks.begun Blocks.programme_by Blocks.plan_by
    Page.right_aligned Page.line Page.miles Page.by_resource Page.heading Page.segment_row Page.total_row Page.limits_row Page.rows Page.lines
    Page.page Page.page_length
    Reasons.holds Reasons.hindrance Reasons.reason_for
    Answers.answer_of Answers.accepting
    Calls.load_refusal_of Calls.load_refusal Calls.export_refusal Calls.page_refusal Calls.loaded_of
    Calls.district_in Calls.unit_with Calls.unit_of Calls.fresh_unit Calls.answered Calls.load_of Calls.alter_of Calls.choose_of
    Calls.exported Calls.export_of Calls.page_of Calls.show_of Calls.explained Calls.why_of
    Survey.deduct_points Survey.block_of Survey.points_of Survey.survey_refusal Survey.survey_of
    Lists.refusal_of Lists.altered Lists.district_from Lists.district_after Lists.chosen Lists.choice_from Lists.choice_after
    Lists.lent_to Lists.outcome_of Lists.unit_from Lists.unit_after
result_of c = result_in c.question c.unit

infix 70 ◌⇒◌
-- a case, and what it comes to as worked elsewhere
pub data WorkedCase : Type 0 where
  ◌⇒◌ : Case → List ℤ → WorkedCase

abbrev pub computed : WorkedCase → List ℤ
computed (c ⇒ r) = result_of c

abbrev pub expected : WorkedCase → List ℤ
expected (c ⇒ r) = r

-- each case comes to what stands beside it
abbrev pub Agree : List WorkedCase → Type 0
Agree cases = map computed cases ≡ map expected cases
