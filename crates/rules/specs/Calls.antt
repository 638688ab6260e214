-- Document 01, "The calls" and "Where a call is refused", with the page and the reasons of document 02: what each call answers, and what unit and
-- buffer then hold.
use Rattle.std.specs.Prelude.{ℕ, zero, suc, List, [], ◌++◌, leb, ltb, length, drop}
use Rattle.rules.specs.District.{District, segments_of, strategies_of, distresses_of, resources_of, with_limit, with_bar, without_bar, with_rating, with_leader, fresh_district}
use Rattle.rules.specs.Format.{inside, limit_range, rating_range}
use Rattle.rules.specs.File.{Read, refused, found, decode, encode}
use Rattle.rules.specs.Blocks.{choice_of, no_blocks, plan_by}
use Rattle.rules.specs.Page.{page, page_length}
use Rattle.rules.specs.Reasons.{reason_for}
use Rattle.rules.specs.Answers.{no_such_segment, no_such_number, new_out_of_range, buffer_too_short, no_room_for_page, leader_not_below, unless, one_to, answer_of, accepting, Answered, Answer}
use Rattle.rules.specs.declared.Edit.{Edit}
use Rattle.rules.specs.declared.Edit.TheVariants.{Bar, Unbar, SetLimit, SetRating, SetLeader}
use Rattle.rules.specs.declared.Choice.{Choice}
use Rattle.rules.specs.declared.Programme.{Programme}
use Rattle.rules.specs.declared.Unit.{Unit}
use Rattle.rules.specs.declared.Reason.{Reason}

-- ---- the refusal of each call, the first condition that it meets

unfoldable pub load_refusal_of : Read → ℕ
load_refusal_of (refused n) = n
load_refusal_of (found d rest) = 0

unfoldable pub load_refusal : List ℕ → ℕ
load_refusal file = load_refusal_of (decode file)

unfoldable pub export_refusal : District → List ℕ → ℕ
export_refusal d buffer = unless (leb (length (encode d)) (length buffer)) buffer_too_short 0

unfoldable pub page_refusal : District → List ℕ → ℕ
page_refusal d buffer = unless (leb (page_length d) (length buffer)) no_room_for_page 0

-- ---- edits: bar, unbar, set limit, set rating, set leader

-- of bar and unbar
abbrev pub bar_refusal : District → ℕ → ℕ → ℕ
bar_refusal d i j = one_to i (segments_of d) no_such_segment (one_to j (strategies_of d) no_such_number 0)

-- the range of a new limit, and of a new rating below, is the file's
abbrev pub limit_refusal : District → ℕ → ℕ → ℕ
limit_refusal d r limit = one_to r (resources_of d) no_such_number (unless (inside (limit_range d r) limit) new_out_of_range 0)

abbrev pub rating_refusal : District → ℕ → ℕ → ℕ → ℕ
rating_refusal d i k rating =
    one_to i (segments_of d) no_such_segment
    (one_to k (distresses_of d) no_such_number (unless (inside (rating_range d k) rating) new_out_of_range 0))

-- a leader has a lower number than its segment, whatever the district has
abbrev pub leader_refusal : District → ℕ → ℕ → ℕ
leader_refusal d i leader = one_to i (segments_of d) no_such_segment (unless (ltb leader i) leader_not_below 0)

abbrev pub edit_refusal : District → Edit → ℕ
edit_refusal d (Bar i j) = bar_refusal d i j
edit_refusal d (Unbar i j) = bar_refusal d i j
edit_refusal d (SetLimit r limit) = limit_refusal d r limit
edit_refusal d (SetRating i k rating) = rating_refusal d i k rating
edit_refusal d (SetLeader i leader) = leader_refusal d i leader

-- the district with the one value that the edit names altered
abbrev pub edited : District → Edit → District
edited d (Bar i j) = with_bar d i j
edited d (Unbar i j) = without_bar d i j
edited d (SetLimit r limit) = with_limit d r limit
edited d (SetRating i k rating) = with_rating d i k rating
edited d (SetLeader i leader) = with_leader d i leader

-- ---- the calls after which the plan is worked out

-- the district that a file loads as, where it loads
unfoldable pub loaded_of : Read → District
loaded_of (refused n) = []
loaded_of (found d rest) = d

unfoldable pub district_in : List ℕ → District
district_in file = loaded_of (decode file)

-- a unit is its district, the blocks chosen, and the plan by them
unfoldable pub unit_with : Choice → District → Unit
unit_with x d = record { district = d; choice = x; programme = plan_by x d }

-- where none are chosen
unfoldable pub unit_of : District → Unit
unit_of d = unit_with no_blocks d

unfoldable pub fresh_unit : Unit
fresh_unit = unit_of fresh_district

-- an answer and the unit as the call leaves it
pub record Reply : Type 0 where
  pub answer : Answer
  pub unit : Unit

-- accepted, the call returns 0, and choice and district replace those held
unfoldable pub answered : Unit → ℕ → Choice → District → Reply
answered u n x d = record { answer = answer_of n 0; unit = accepting n (unit_with x d) u }

-- a load ends the choice of blocks (document 02, request 13), and an edit keeps it
unfoldable pub load_of : Unit → List ℕ → Reply
load_of u file = answered u (load_refusal file) no_blocks (district_in file)

unfoldable pub alter_of : Unit → Edit → Reply
alter_of u e = answered u (edit_refusal u.district e) u.choice (edited u.district e)

-- nothing refuses a row, be it one that can be followed or not
unfoldable pub choose_of : Unit → List ℕ → Reply
choose_of u row = answered u 0 (choice_of row) u.district

-- ---- export, page, show and why, which leave the unit as it is

-- the answer of a call that writes into a buffer, and what that then holds
pub record Export : Type 0 where
  pub answer : Answer
  pub buffer : List ℕ

-- accepted, it returns how many bytes it writes, and writes them over the front of the buffer
unfoldable pub exported : ℕ → List ℕ → List ℕ → Export
exported n bytes buffer =
    record { answer = answer_of n (length bytes); buffer = accepting n (bytes ++ drop (length bytes) buffer) buffer }

unfoldable pub export_of : Unit → List ℕ → Export
export_of u buffer = exported (export_refusal u.district buffer) (encode u.district) buffer

unfoldable pub page_of : Unit → List ℕ → Export
page_of u buffer = exported (page_refusal u.district buffer) (page u.district u.programme) buffer

unfoldable pub show_of : Unit → Programme
show_of u = u.programme

abbrev pub Why : Type 0
Why = Answered Reason

-- a reason where nothing refuses the question, else the refusal's number
unfoldable pub explained : ℕ → Reason → Why
explained n reason = answer_of n reason

-- the refusals are those of a bar
unfoldable pub why_of : Unit → ℕ → ℕ → Why
why_of u i j = explained (bar_refusal u.district i j) (reason_for u.district u.programme.strategies i j)
