-- Demand 2, of the unit after any list of calls: district and programme are those of the rules, the search of each phase has ended by
-- itself, and the export gives both back.
use mathlib.Core.Path.{◌≡◌, refl, sym, ◌∙◌}
use mathlib.Core.Bool.{true, false}
use Rattle.rules.specs.District.{District, leader_of}
use Rattle.rules.specs.File.{encode, in_range}
use Rattle.rules.specs.Table.{table_of}
use Rattle.rules.specs.Plan.{programme_of}
use Rattle.rules.specs.Blocks.{no_blocks, followed, plan_by}
use Rattle.rules.specs.Answers.{answer_of, accepting, Accepted}
use Rattle.rules.specs.Calls.{load_refusal_of, load_refusal, loaded_of, district_in, unit_with, unit_of, answered, load_of, show_of}
use Rattle.rules.specs.Lists.{district_after, choice_after}
use Rattle.rules.specs.Demands.{TheRules}
use Rattle.rules.specs.declared.Choice.{Choice}
use Rattle.rules.specs.declared.Unit.{Unit}
use Rattle.file.proofs.Back.{decode_encode}
use Rattle.laws.proofs.Blocks.{plan_ordinary, none_followed}
use Rattle.theorems.proofs.BlockLists.{block_finished}
use Rattle.theorems.proofs.Promises as promises
use Rattle.demands.proofs.EveryFile.{exports}
use Rattle.demands.proofs.Lists.{after, district_after_lem, choice_after_lem, after_in, few_after, counts_after, begun_after, begins_after, planned, shown_after}

loads_again : (u : Unit) (d : District) → in_range d ≡ true → load_of u (encode d) ≡ record { answer = Accepted 0; unit = unit_of d }
unfolding load_of answered unit_of load_refusal load_refusal_of district_in loaded_of answer_of accepting
loads_again u d ok = rw (decode_encode d ok)

-- the plan where no blocks are followed
ordinary_shown :
    (x : Choice) (d : District) → in_range d ≡ true → followed x d ≡ false → plan_by x d ≡ programme_of (table_of d) (leader_of d)
ordinary_shown x d ok out = plan_ordinary x d out ∙ rw ok

pub the_rules : TheRules
unfolding show_of unit_of unit_with
the_rules cs =
    let x = choice_after cs in
    let d = district_after cs in
    let ok = after_in cs in
    let ordinary = ordinary_shown no_blocks d ok (none_followed d) in
    record {
      district = district_after_lem cs;
      choice = choice_after_lem cs;
      programme = shown_after cs;
      finished = promises.finished d (few_after cs) (begun_after cs) (begins_after cs);
      blocks = block_finished x d (counts_after cs);
      exported = λ buffer room. rw (after cs) (exports x d (encode d) buffer refl room);
      reloaded = λ u. loads_again u d ok;
      ordinary = ordinary;
      unblocked = λ out. shown_after cs ∙ sym (planned x d ok) ∙ ordinary_shown x d ok out ∙ sym ordinary;
    }
