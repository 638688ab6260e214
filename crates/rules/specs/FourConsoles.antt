-- Four consoles (document 02, request 12), computed from these rules: whose turn it is, the eight places, the order of the refusals, and from which
-- district an edit is answered. Worked by hand from the request.
use Rattle.std.specs.Prelude.{ℕ, ◌≡◌, refl, true, List, [], ◌∷◌, ◌++◌, map, length, take, replicate, pos}
use native.Mathlib.Omega.{arith}
use Rattle.rules.specs.District.{limit_of}
use Rattle.rules.specs.Plan.{no_programme}
use Rattle.rules.specs.Lists.{Load, Alter, ExportTo, Show, AskWhy}
use Rattle.rules.specs.Offices.{Held, Plan, Send, AskRoughness}
use Rattle.rules.specs.Stations.{fresh_both, StationCall, call_of, without}
use Rattle.rules.specs.StationDemands.{nothing_more, programme, Told, Got, got_by, throughout, leaves_tables, not_in_use, LeavingOut}
use Rattle.rules.specs.Desks.{fresh_queues, arrival_refusal, arrival_of, taken, Desk, fresh_desk, step_of, Event, Arrive, Step, Ask, desk_by, answer_to, desk_from, desk_after, gathered, calls_at, calls_in, accepted_by, carried_by, accepted_from, carried_from, steps_in}
use Rattle.rules.specs.DeskDemands.{further, NobodyStarves, CarriedInTime, Given, gives, all_given, given_to}
use Rattle.rules.specs.Writer.{Roads, strategy, nothing_demanded, segment, barring, file_of, district_with_leaders}
use Rattle.rules.specs.TwoOffices.{answers_to, as_fresh}
use Rattle.rules.specs.declared.Console.{Console}
use Rattle.rules.specs.declared.Console.TheVariants.{One, Two, Three, Four}
use Rattle.rules.specs.declared.Edit.{Edit}
use Rattle.rules.specs.declared.Edit.TheVariants.{Bar, Unbar, SetLimit, SetRating, SetLeader}
use Rattle.rules.specs.declared.Sent.TheVariants.{Index, Marker}
use Rattle.rules.specs.declared.Waiting.{Waiting}
use Rattle.rules.specs.Answers.{Answer, Accepted, Refused}
use Rattle.rules.specs.declared.Which.{Which}
use Rattle.rules.specs.declared.Which.TheVariants.{First, Second}

-- ---- what events return: an arrival, and a call, its answer; a step the console with its edit's answer
pub data Returned : Type 0 where
  To : Answer → Returned
  From : ℕ → Answer → Returned

unfoldable pub returned_by : Desk → Event → List Returned
returned_by d (Arrive n w) = To (answer_to d (Arrive n w)) ∷ []
returned_by d Step = From (step_of d).console (answer_to d Step) ∷ []
returned_by d (Ask c) = To (answer_to d (Ask c)) ∷ []

unfoldable pub returned_to : List Event → List Returned
unfolding
    answers_to
    fresh_queues arrival_refusal arrival_of taken fresh_desk step_of desk_by answer_to desk_from desk_after gathered calls_at accepted_by carried_by steps_in gives all_given given_to
    further returned_by
returned_to es = gathered returned_by fresh_desk es

-- ---- edits of a fresh station, whose offices have no segments, one strategy and one resource

abbrev by : ℕ → Edit → Waiting
by office e = record { office = office; edit = e }

-- one that is carried out, and three that are refused: 6, 7 and 8
abbrev limit : ℕ → Waiting
limit x = by 1 (SetLimit 1 x)

abbrev no_segment : Waiting
no_segment = by 1 (Bar 1 1)

abbrev no_resource : Waiting
no_resource = by 1 (SetLimit 2 9)

abbrev too_great : Waiting
too_great = limit 1_000_000_000

abbrev ok : Returned
ok = To (Accepted 0)

abbrev idle : Returned
idle = From 0 (Accepted 0)

-- ---- whose turn it is

-- console 1 first; then the next one that has an edit, not the first again; after a step that found none the turn is where it was, with console 3
pub turns :
    returned_to
    (Step
    ∷ Arrive 2 no_resource ∷ Arrive 1 no_segment ∷ Arrive 1 (limit 9)
    ∷ Step ∷ Step ∷ Step
    ∷ Arrive 2 no_segment
    ∷ Step ∷ Step ∷ Step
    ∷ Arrive 1 (limit 9) ∷ Arrive 2 no_resource ∷ Arrive 3 no_segment ∷ Arrive 4 too_great
    ∷ Step ∷ Step ∷ Step ∷ Step ∷ Step
    ∷ [])
    ≡ idle
    ∷ ok ∷ ok ∷ ok
    ∷ From 1 (Refused 6) ∷ From 2 (Refused 7) ∷ From 1 (Accepted 0)
    ∷ ok
    ∷ From 2 (Refused 6) ∷ idle ∷ idle
    ∷ ok ∷ ok ∷ ok ∷ ok
    ∷ From 3 (Refused 6) ∷ From 4 (Refused 8) ∷ From 1 (Accepted 0) ∷ From 2 (Refused 7) ∷ idle
    ∷ []
unfolding returned_to
turns = refl

-- the next one that has an edit, not the lowest; the turn goes on after an edit that is carried out as after one that is refused, and the next console
-- is found at the step, not before it. A call leaves turn and queues, also a load that brings other tables: a second limit, good when it arrived, gets 7
-- at its step
abbrev two_resources : Roads
two_resources = record { years = 1; limits = 0 ∷ 0 ∷ []; greatest = 1 ∷ []; strategies = strategy (0 ∷ 0 ∷ []) (pos 0) 0 ∷ []; pavements = nothing_demanded ∷ []; segments = [] }

abbrev loads : Roads → Event
loads roads = Ask (call_of 1 (Plan (Load (file_of roads))))

pub in_circle :
    returned_to
    (Arrive 1 (limit 9) ∷ Arrive 1 (limit 8) ∷ Arrive 4 no_segment
    ∷ Step
    ∷ Arrive 3 no_resource
    ∷ Step ∷ Step ∷ Step
    ∷ loads two_resources ∷ Arrive 1 no_segment ∷ Arrive 2 (by 2 (SetLimit 3 9)) ∷ Arrive 2 (by 2 (SetLimit 2 9)) ∷ loads as_fresh
    ∷ Step ∷ Step ∷ Step
    ∷ [])
    ≡ ok ∷ ok ∷ ok
    ∷ From 1 (Accepted 0)
    ∷ ok
    ∷ From 3 (Refused 7) ∷ From 4 (Refused 6) ∷ From 1 (Accepted 0)
    ∷ ok ∷ ok ∷ ok ∷ ok ∷ ok
    ∷ From 2 (Refused 7) ∷ From 1 (Accepted 0) ∷ From 2 (Refused 7)
    ∷ []
unfolding returned_to
in_circle = refl

-- of one console the oldest first; one that is refused uses its step and does not come back
pub oldest :
    returned_to (Arrive 4 no_segment ∷ Arrive 4 (limit 9) ∷ Arrive 4 no_resource ∷ replicate 4 Step)
    ≡ ok ∷ ok ∷ ok ∷ From 4 (Refused 6) ∷ From 4 (Accepted 0) ∷ From 4 (Refused 7) ∷ idle ∷ []
unfolding returned_to
oldest = refl

-- ---- arrivals

-- eight places for each console; one is free again after a step
pub places :
    returned_to (replicate 9 (Arrive 4 no_segment) ++ (Arrive 3 no_segment ∷ Step ∷ Arrive 4 no_segment ∷ Step ∷ Arrive 4 no_segment ∷ Arrive 4 no_segment ∷ []))
    ≡ replicate 8 ok
    ++ (To (Refused 21) ∷ ok ∷ From 3 (Refused 6) ∷ To (Refused 21) ∷ From 4 (Refused 6) ∷ ok ∷ To (Refused 21) ∷ [])
unfolding returned_to
places = refl

-- 16 before 20, and both before 21; 6 not before the step. The numbers are of offices, and of consoles, that there are not, also where their low bits
-- are those of one
abbrev asked : ℕ → List Event
asked office = map (λ n. Arrive n (by office (Bar 1 1))) (0 ∷ 5 ∷ 257 ∷ 4_294_967_297 ∷ 18_446_744_073_709_551_615 ∷ 1 ∷ 4 ∷ [])

pub in_order :
    returned_to (replicate 8 (Arrive 4 no_segment) ++ (asked 0 ++ asked 3 ++ asked 257 ++ asked 1 ++ asked 2))
    ≡ replicate 8 ok
    ++ (replicate 21 (To (Refused 16))
    ++ (replicate 5 (To (Refused 20)) ++ (ok ∷ To (Refused 21) ∷ []))
    ++ (replicate 5 (To (Refused 20)) ++ (ok ∷ To (Refused 21) ∷ [])))
unfolding returned_to
in_order = refl

-- ---- the district then held

-- a load empties no queue; what arrived before it is answered from the district after it, of its own office: office 1 then has a segment, and office 2
-- has none
pub then_held :
    returned_to
    (Arrive 1 (by 1 (Bar 1 1)) ∷ Arrive 2 (by 2 (Bar 1 1)) ∷ Arrive 3 (by 1 (SetLeader 1 1)) ∷ Arrive 4 (by 1 (SetRating 1 1 2))
    ∷ loads as_fresh
    ∷ replicate 5 Step)
    ≡ replicate 5 ok
    ++ (From 1 (Accepted 0) ∷ From 2 (Refused 6) ∷ From 3 (Refused 14) ∷ From 4 (Refused 8) ∷ idle ∷ [])
unfolding returned_to
then_held = refl

-- each of the five edits alters what it names, and no other value
abbrev before : Roads
before =
    record {
      years = 1;
      limits = 3 ∷ 4 ∷ [];
      greatest = 9 ∷ 8 ∷ [];
      strategies = replicate 2 (strategy (0 ∷ 0 ∷ []) (pos 0) 0);
      pavements = nothing_demanded ∷ [];
      segments = segment 1 1 [] ∷ segment 1 1 [] ∷ barring (2 ∷ []) (segment 1 1 []) ∷ [];
    }

abbrev altered : Roads
altered =
    record {
      years = 1;
      limits = 3 ∷ 5 ∷ [];
      greatest = 9 ∷ 8 ∷ [];
      strategies = replicate 2 (strategy (0 ∷ 0 ∷ []) (pos 0) 0);
      pavements = nothing_demanded ∷ [];
      segments = segment 1 1 [] ∷ barring (1 ∷ []) (segment 1 1 []) ∷ segment 1 1 (0 ∷ 6 ∷ []) ∷ [];
    }

abbrev five_edits : List Event
five_edits =
    loads before
    ∷ Arrive 1 (by 1 (Bar 2 1)) ∷ Arrive 2 (by 1 (Unbar 3 2)) ∷ Arrive 3 (by 1 (SetLimit 2 5)) ∷ Arrive 4 (by 1 (SetRating 3 2 6)) ∷ Arrive 1 (by 1 (SetLeader 3 2))
    ∷ replicate 5 Step

pub five_altered : (desk_after five_edits).held.first.unit.district ≡ district_with_leaders altered (0 ∷ 0 ∷ 2 ∷ [])
unfolding returned_to
five_altered = refl

-- ---- lists

-- edits at two consoles, of which one is refused; one at none, and one of no office; calls between them
abbrev mixed : List Event
mixed =
    Arrive 1 (by 2 (SetLimit 1 7)) ∷ Arrive 1 no_segment ∷ Arrive 9 (limit 9) ∷ Arrive 2 (by 3 (SetLimit 1 5))
    ∷ Ask (call_of 1 (Plan Show)) ∷ Step
    ∷ Arrive 2 (limit 6)
    ∷ Ask (call_of 2 (Plan (Alter (Bar 1 1)))) ∷ Step ∷ Step
    ∷ Arrive 1 (limit 9) ∷ Step ∷ Step
    ∷ Arrive 1 (limit 8)
    ∷ []

abbrev carry : Waiting → StationCall
carry w = call_of w.office (Plan (Alter w.edit))

-- each edit stands at its step
pub calls :
    calls_in mixed
    ≡ call_of 1 (Plan Show) ∷ carry (by 2 (SetLimit 1 7)) ∷ call_of 2 (Plan (Alter (Bar 1 1))) ∷ carry (limit 6) ∷ carry no_segment ∷ carry (limit 9) ∷ []
unfolding returned_to
calls = refl

-- what the desk gives for them, and to whom: a refused call of office 2 beside its edit
pub given :
    (map (λ (g : Given). g.got.answer) (gathered gives fresh_desk mixed) ∷ map (λ (w : Which). map (λ (g : Got). g.answer) (given_to w (gathered gives fresh_desk mixed))) (First ∷ Second ∷ []))
    ≡ (Accepted 0 ∷ Accepted 0 ∷ Refused 6 ∷ Accepted 0 ∷ Refused 6 ∷ Accepted 0 ∷ [])
    ∷ (Accepted 0 ∷ Accepted 0 ∷ Refused 6 ∷ Accepted 0 ∷ [])
    ∷ (Accepted 0 ∷ Refused 6 ∷ [])
    ∷ []
unfolding returned_to
given = refl

-- which is what the list of calls gets: no bytes, and of an edit its answer alone
abbrev gave : ℕ → Answer → Told → Given
gave office answer told = record { office = office; got = record { answer = answer; bytes = []; told = told } }

pub as_calls :
    gathered gives fresh_desk mixed ∷ all_given fresh_both (calls_in mixed) ∷ []
    ≡ replicate 2
    (gave 1 (Accepted 0) (programme no_programme)
    ∷ gave 2 (Accepted 0) nothing_more
    ∷ gave 2 (Refused 6) nothing_more
    ∷ gave 1 (Accepted 0) nothing_more
    ∷ gave 1 (Refused 6) nothing_more
    ∷ gave 1 (Accepted 0) nothing_more
    ∷ [])
unfolding returned_to
as_calls = refl

-- what was accepted at consoles 1 and 2, and what was carried out; how many steps there were
pub once :
    (map (λ (c : Console). accepted_from c fresh_desk mixed) (One ∷ Two ∷ []) ++ map (λ (c : Console). carried_from c fresh_desk mixed) (One ∷ Two ∷ []))
    ≡ (by 2 (SetLimit 1 7) ∷ no_segment ∷ limit 9 ∷ limit 8 ∷ [])
    ∷ (limit 6 ∷ [])
    ∷ (by 2 (SetLimit 1 7) ∷ no_segment ∷ limit 9 ∷ [])
    ∷ (limit 6 ∷ [])
    ∷ []
unfolding returned_to
once = refl

pub steps : steps_in mixed ≡ 5
unfolding returned_to
steps = refl

-- an edit alters its own office's district
pub limits : map (λ (h : Held). limit_of h.unit.district 1) ((desk_after mixed).held.first ∷ (desk_after mixed).held.second ∷ []) ≡ 9 ∷ 7 ∷ []
unfolding returned_to
limits = refl

-- four steps for each edit before one's own and four for that one, and no fewer: two wait at each console, and of console 4's so many are carried out by
-- 3, 4, 7 and 8 steps
abbrev pairs : List Event
pairs = map (λ n. Arrive n no_segment) (1 ∷ 1 ∷ 2 ∷ 2 ∷ 3 ∷ 3 ∷ 4 ∷ 4 ∷ [])

pub no_fewer : map (λ n. length (carried_from Four (desk_after pairs) (replicate n Step))) (3 ∷ 4 ∷ 7 ∷ 8 ∷ []) ≡ 0 ∷ 1 ∷ 1 ∷ 2 ∷ []
unfolding returned_to
no_fewer = refl

-- so what is promised of them is promised of just so many: of both by 8 steps, and of one that arrives behind two others by 12
pub by_eight : NobodyStarves → take 2 (carried_from Four (desk_after pairs) (replicate 8 Step)) ≡ no_segment ∷ no_segment ∷ []
unfolding returned_to
by_eight served = served (desk_after pairs) Four 1 (replicate 8 Step) (omega arith) (omega arith)

pub by_twelve :
    CarriedInTime
    → take 3 (carried_from Four (desk_by (desk_after pairs) (Arrive 4 no_resource)) (replicate 12 Step)) ≡ no_segment ∷ no_segment ∷ no_resource ∷ []
unfolding returned_to
by_twelve served = served (desk_after pairs) Four no_resource (replicate 12 Step) refl (omega arith)

-- ---- calls of every sort beside edits, and what leaving out leaves

-- a load, records of the meter and the question for points, a load that gets 17, a why, an export without room, and a call of no office
abbrev sorts : List Event
sorts =
    loads as_fresh ∷ Arrive 2 (by 2 (SetLimit 1 7))
    ∷ Ask (call_of 1 (Send (Marker 7))) ∷ Ask (call_of 1 (Send (Index 1083598848))) ∷ Step
    ∷ Ask (call_of 1 AskRoughness) ∷ Arrive 3 (limit 9) ∷ Ask (call_of 2 AskRoughness)
    ∷ Ask (call_of 2 (Plan (Load (file_of two_resources)))) ∷ Step
    ∷ Ask (call_of 1 (Plan (AskWhy 1 1))) ∷ Ask (call_of 1 (Plan (ExportTo []))) ∷ Ask (call_of 3 (Plan Show))
    ∷ []

pub given_sorts :
    map (λ (w : Which). map (λ (g : Got). g.answer) (given_to w (gathered gives fresh_desk sorts))) (First ∷ Second ∷ [])
    ≡ (replicate 6 (Accepted 0) ++ (Refused 9 ∷ [])) ∷ (Accepted 0 ∷ Refused 13 ∷ Refused 17 ∷ []) ∷ []
unfolding returned_to
given_sorts = refl

-- without the calls of office 1, its edits at their steps among them, office 2 gets what the desk gave it: no call of office 1 changed a table, and
-- office 2 got no 17
pub left_out :
    (throughout (leaves_tables First) fresh_both (calls_in mixed) ∷ throughout (not_in_use Second) fresh_both (calls_in mixed) ∷ []) ≡ true ∷ true ∷ []
unfolding returned_to
left_out = refl

pub left_out_gets : answers_to Second (without First (calls_in mixed)) ≡ Accepted 0 ∷ Refused 6 ∷ []
unfolding returned_to
left_out_gets = refl

-- and that much is promised: all that it gets, and not its answers alone
pub left_out_promised : LeavingOut → got_by Second (without First (calls_in mixed)) ≡ got_by Second (calls_in mixed)
unfolding returned_to
left_out_promised alone = alone First (calls_in mixed) refl refl

-- of arrivals that is not so: an edit of office 2 finds no place behind eight of office 1, and one without them
pub shared_places :
    (returned_to (replicate 8 (Arrive 4 no_segment) ++ (Arrive 4 (by 2 (SetLimit 1 7)) ∷ [])) ∷ returned_to (Arrive 4 (by 2 (SetLimit 1 7)) ∷ []) ∷ [])
    ≡ (replicate 8 ok ++ (To (Refused 21) ∷ [])) ∷ (ok ∷ []) ∷ []
unfolding returned_to
shared_places = refl

-- the circular order, from console 3 on
pub in_order_from_3 : map (λ n. further n Three) (0 ∷ 1 ∷ 2 ∷ 3 ∷ []) ≡ Three ∷ Four ∷ One ∷ Two ∷ []
unfolding returned_to
in_order_from_3 = refl
