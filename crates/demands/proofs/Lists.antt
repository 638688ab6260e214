-- The unit after any list of calls, the empty one too, refused calls included: it holds the district and the choice of blocks that follow from the
-- calls alone, the district in the file's ranges, with the programme for them. All that is promised of districts in range then holds of it.
use Prim.Native.Nat.{ℕ, zero, suc, ◌≤◌}
use mathlib.Core.List.{List, [], ◌∷◌}
use mathlib.Core.Path.{◌≡◌, refl, ap, ◌∙◌}
use mathlib.Core.Bool.{true}
use native.Mathlib.Omega.{arith}
use Rattle.base.specs.Search.{Run}
use Rattle.rules.specs.District.{District, most_segments, segments_of, leader_of, fresh_district}
use Rattle.rules.specs.File.{in_range}
use Rattle.rules.specs.Table.{table_of}
use Rattle.rules.specs.Plan.{programme_from}
use Rattle.rules.specs.Blocks.{choice_of, no_blocks, begun, programme_by, plan_by}
use Rattle.rules.specs.Answers.{accepting}
use Rattle.rules.specs.Calls.{unit_with, unit_of, fresh_unit, answered, load_of, alter_of, choose_of, show_of}
use Rattle.rules.specs.Lists.{Call, Load, Alter, ChooseBlocks, ExportTo, PageTo, Show, AskWhy, refusal_of, altered, district_from, district_after, chosen, choice_from, choice_after, outcome_of, unit_from, unit_after}
use Rattle.rules.specs.declared.Choice.{Choice}
use Rattle.rules.specs.declared.Unit.{Unit}
use Rattle.laws.specs.Counts.{Few}
use Rattle.laws.proofs.Leaders.{LowerLeaders}
use Rattle.rating.proofs.Few.{few_of}
use Rattle.theorems.proofs.Programmes.{Begins}
use Rattle.theorems.proofs.Joined.{begun_begins}
use Rattle.grammar.proofs.InRanges.{in_ranges}
use Rattle.grammar.proofs.Edits.{edit_kept}
use Rattle.grammar.proofs.Fresh.{fresh_in_range}
use Rattle.file.proofs.Forth.{loads_as}

-- ---- the unit after a list

accepting_unit :
    (x : Choice) (d : District) (n : ℕ) (y : Choice) (e : District)
    → accepting n (unit_with y e) (unit_with x d) ≡ unit_with (accepting n y x) (accepting n e d)
unfolding accepting
accepting_unit x d zero y e = refl
accepting_unit x d (suc n) y e = refl

accepting_same : {A : Type 0} (a : A) (n : ℕ) → accepting n a a ≡ a
unfolding accepting
accepting_same a zero = refl
accepting_same a (suc n) = refl

-- district and choice after one call
abbrev next : District → Call → District
next d c = accepting (refusal_of d c) (altered d c) d

abbrev next_choice : District → Choice → Call → Choice
next_choice d x c = accepting (refusal_of d c) (chosen x c) x

pub unit_next : (x : Choice) (d : District) (c : Call) → (outcome_of (unit_with x d) c).unit ≡ unit_with (next_choice d x c) (next d c)
unfolding outcome_of refusal_of altered chosen unit_with answered alter_of load_of choose_of
unit_next x d (Load file) = accepting_unit x d (refusal_of d (Load file)) no_blocks (altered d (Load file))
unit_next x d (Alter e) = accepting_unit x d (refusal_of d (Alter e)) x (altered d (Alter e))
unit_next x d (ChooseBlocks row) = accepting_unit x d 0 (choice_of row) d
unit_next x d (ExportTo buffer) = rw (accepting_same d (refusal_of d (ExportTo buffer)), accepting_same x (refusal_of d (ExportTo buffer)))
unit_next x d (PageTo buffer) = rw (accepting_same d (refusal_of d (PageTo buffer)), accepting_same x (refusal_of d (PageTo buffer)))
unit_next x d Show = rw (accepting_same d 0, accepting_same x 0)
unit_next x d (AskWhy i j) = rw (accepting_same d (refusal_of d (AskWhy i j)), accepting_same x (refusal_of d (AskWhy i j)))

unit_from_lem : (x : Choice) (d : District) (cs : List Call) → unit_from (unit_with x d) cs ≡ unit_with (choice_from d x cs) (district_from d cs)
unfolding unit_from district_from choice_from
unit_from_lem x d [] = refl
unit_from_lem x d (c ∷ cs) = ap (λ (u : Unit). unit_from u cs) (unit_next x d c) ∙ unit_from_lem (next_choice d x c) (next d c) cs

pub after : (cs : List Call) → unit_after cs ≡ unit_with (choice_after cs) (district_after cs)
unfolding unit_after district_after choice_after fresh_unit unit_of
after cs = unit_from_lem no_blocks fresh_district cs

pub district_after_lem : (cs : List Call) → (unit_after cs).district ≡ district_after cs
unfolding unit_with
district_after_lem cs = ap (λ (u : Unit). u.district) (after cs)

pub choice_after_lem : (cs : List Call) → (unit_after cs).choice ≡ choice_after cs
unfolding unit_with
choice_after_lem cs = ap (λ (u : Unit). u.choice) (after cs)

-- ---- every list leads to a district in range

-- a call that is not refused keeps the district in range
altered_in : (d : District) (c : Call) → in_range d ≡ true → refusal_of d c ≡ 0 → in_range (altered d c) ≡ true
unfolding refusal_of altered
altered_in d (Load file) ok none = (loads_as file none).1
altered_in d (Alter e) ok none = edit_kept d e ok none
altered_in d (ChooseBlocks row) ok none = ok
altered_in d (ExportTo buffer) ok none = ok
altered_in d (PageTo buffer) ok none = ok
altered_in d Show ok none = ok
altered_in d (AskWhy i j) ok none = ok

next_in : (d : District) (c : Call) → in_range d ≡ true → in_range (next d c) ≡ true
unfolding accepting
next_in d c ok = go (refusal_of d c) refl
  where
    go : (n : ℕ) → refusal_of d c ≡ n → in_range (accepting n (altered d c) d) ≡ true
    go zero e = altered_in d c ok e
    go (suc n) e = ok

from_in : (d : District) (cs : List Call) → in_range d ≡ true → in_range (district_from d cs) ≡ true
unfolding district_from
from_in d [] ok = ok
from_in d (c ∷ cs) ok = from_in (next d c) cs (next_in d c ok)

pub after_in : (cs : List Call) → in_range (district_after cs) ≡ true
unfolding district_after
after_in cs = from_in fresh_district cs fresh_in_range

-- what is promised of programmes takes this of its ranges
pub few_after : (cs : List Call) → segments_of (district_after cs) ≤ most_segments
few_after cs = (in_ranges (district_after cs) (after_in cs)).segments

pub lower_after : (cs : List Call) → LowerLeaders (leader_of (district_after cs)) (segments_of (district_after cs))
lower_after cs i l h = (in_ranges (district_after cs) (after_in cs)).leader i l (omega (arith, few_after cs))

pub counts_after : (cs : List Call) → Few (district_after cs)
counts_after cs = few_of (district_after cs) (in_ranges (district_after cs) (after_in cs))

-- ---- so it has a programme

-- how phase 1 went,
abbrev pub begun_after : List Call → Run (List ℕ)
begun_after cs = begun (choice_after cs) (district_after cs)

-- from which phases 2 and 3 go on
pub begins_after : (cs : List Call) → Begins (table_of (district_after cs)) (leader_of (district_after cs)) (begun_after cs)
begins_after cs = begun_begins (choice_after cs) (district_after cs) (counts_after cs)

-- the plan of a district in range
pub planned : (x : Choice) (d : District) → in_range d ≡ true → plan_by x d ≡ programme_by x d
unfolding plan_by
planned x d ok = rw ok

pub shown_after : (cs : List Call) → show_of (unit_after cs) ≡ programme_by (choice_after cs) (district_after cs)
unfolding show_of unit_with
shown_after cs = ap (λ (u : Unit). u.programme) (after cs) ∙ planned (choice_after cs) (district_after cs) (after_in cs)

pub programme_after : (cs : List Call) → show_of (unit_after cs) ≡ programme_from (table_of (district_after cs)) (leader_of (district_after cs)) (begun_after cs)
unfolding programme_by
programme_after cs = shown_after cs
