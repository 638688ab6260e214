-- Demand 1: of a unit in any state, a call that nothing refuses gives a full result, and any other gives the number of the first refusal and changes
-- nothing.
use Prim.Native.Nat.{ℕ, zero, suc}
use mathlib.Core.List.{List, []}
use mathlib.Core.Path.{◌≡◌, refl, ap, ◌∙◌}
use native.Mathlib.Omega.{arith}
use lib.Dec.{leb}
use lib.ListN.{length}
use mathlib.Core.Bool.{Bool, true, false, ◌&&◌}
use Rattle.base.specs.Over.{between}
use Rattle.rules.specs.District.{District}
use Rattle.rules.specs.Answers.{no_such_points, unless, answer_of, accepting, Accepted, Refused}
use Rattle.rules.specs.Calls.{unit_with, answered, load_of, alter_of, choose_of, exported, export_of, page_of}
use Rattle.rules.specs.Lists.{Call, Load, Alter, ChooseBlocks, ExportTo, PageTo, Show, AskWhy, refusal_of, altered, chosen, Outcome, outcome_of, lent_to, replied, written}
use Rattle.rules.specs.Demands.{returned, Settled, EveryAnswer, EveryPoints}
use Rattle.rules.specs.Survey.{block_of, points_of, survey_refusal, survey_of}
use Rattle.laws.proofs.Page.{page_length_lem}
use Rattle.rules.specs.declared.Choice.{Choice}
use Rattle.rules.specs.declared.Unit.{Unit}

-- an answer where nothing refuses it
pub accepted_answer : (n value : ℕ) → n ≡ 0 → answer_of n value ≡ Accepted value
unfolding answer_of
accepted_answer zero value e = refl
accepted_answer (suc n) value e = absurd (omega arith)

module _ (u : Unit) (bytes : List ℕ) where
  -- the outcome of a refusal
  abbrev refused_with : ℕ → Outcome
  refused_with n = record { answer = Refused n; unit = u; bytes = bytes }

  -- a call that changes the district
  reply_accepted : (n : ℕ) (x : Choice) (d : District) → n ≡ 0 → (replied (answered u n x d) bytes).answer ≡ Accepted 0
  unfolding answered
  reply_accepted n x d e = accepted_answer n 0 e

  reply_held : (n : ℕ) (x : Choice) (d : District) → n ≡ 0 → (replied (answered u n x d) bytes).unit.district ≡ d
  unfolding answered accepting unit_with
  reply_held zero x d e = refl
  reply_held (suc n) x d e = absurd (omega arith)

  reply_chosen : (n : ℕ) (x : Choice) (d : District) → n ≡ 0 → (replied (answered u n x d) bytes).unit.choice ≡ x
  unfolding answered accepting unit_with
  reply_chosen zero x d e = refl
  reply_chosen (suc n) x d e = absurd (omega arith)

  reply_refused : (n : ℕ) (x : Choice) (d : District) (m : ℕ) → n ≡ suc m → replied (answered u n x d) bytes ≡ refused_with (suc m)
  unfolding answered answer_of accepting
  reply_refused zero x d m e = absurd (omega arith)
  reply_refused (suc n) x d m e = rw e

  -- an export, or a page, into these bytes
  export_accepted : (n : ℕ) (file : List ℕ) → n ≡ 0 → (written (exported n file bytes) u).answer ≡ Accepted (length file)
  unfolding exported
  export_accepted n file e = accepted_answer n (length file) e

  export_refused : (n : ℕ) (file : List ℕ) (m : ℕ) → n ≡ suc m → written (exported n file bytes) u ≡ refused_with (suc m)
  unfolding exported answer_of accepting
  export_refused zero file m e = absurd (omega arith)
  export_refused (suc n) file m e = rw e

-- a question, which is lent no bytes
ask_refused : (u : Unit) (n m : ℕ) → n ≡ suc m → record { answer = answer_of n 0; unit = u; bytes = [] } ≡ refused_with u [] (suc m)
unfolding answer_of
ask_refused u zero m e = absurd (omega arith)
ask_refused u (suc n) m e = rw e

-- a call that returns 0, and after which choice and district are held as it alters them
replied_settled :
    (u : Unit) (c : Call)
    → outcome_of u c ≡ replied (answered u (refusal_of u.district c) (chosen u.choice c) (altered u.district c)) (lent_to c)
    → returned u.district c ≡ 0 → Settled u c
replied_settled u c is none =
    let n = refusal_of u.district c in
    let x = chosen u.choice c in
    let d = altered u.district c in
    record {
      accepted = λ e. rw (is, none) (reply_accepted u (lent_to c) n x d e);
      held = λ e. rw is (reply_held u (lent_to c) n x d e);
      choice = λ e. rw is (reply_chosen u (lent_to c) n x d e);
      refused = λ m e. rw is (reply_refused u (lent_to c) n x d m e);
    }

pub every_answer : EveryAnswer
unfolding refusal_of altered chosen outcome_of lent_to returned load_of alter_of choose_of export_of page_of
every_answer u (Load file) = replied_settled u (Load file) refl refl
every_answer u (Alter e) = replied_settled u (Alter e) refl refl
every_answer u (ChooseBlocks row) = replied_settled u (ChooseBlocks row) refl refl
every_answer u (ExportTo buffer) =
    record { accepted = export_accepted u buffer _ _; held = λ e. refl; choice = λ e. refl; refused = export_refused u buffer _ _ }
every_answer u (PageTo buffer) =
    record {
      accepted = λ e. export_accepted u buffer _ _ e ∙ ap (λ (n : ℕ). Accepted n) (page_length_lem u.district u.programme);
      held = λ e. refl;
      choice = λ e. refl;
      refused = export_refused u buffer _ _;
    }
every_answer u Show = record { accepted = λ e. refl; held = λ e. refl; choice = λ e. refl; refused = λ n e. absurd (omega arith) }
every_answer u (AskWhy i j) = record { accepted = accepted_answer _ 0; held = λ e. refl; choice = λ e. refl; refused = ask_refused u _ }

-- survey points

pub every_points : EveryPoints
unfolding survey_of survey_refusal answer_of
every_points code degree extent seal =
    record {
      accepted = λ e. accepted_answer (survey_refusal code degree extent seal) _ e;
      refused = λ some. go (leb 1 (block_of code seal) && (leb degree 3 && between 1 3 extent)) refl some;
    }
  where
    go : (t : Bool) → (leb 1 (block_of code seal) && (leb degree 3 && between 1 3 extent)) ≡ t → ¬ (unless t no_such_points 0 ≡ 0)
        → answer_of (unless t no_such_points 0) (points_of (block_of code seal) degree extent) ≡ Refused no_such_points
    go true e some = absurd (some refl)
    go false e some = refl
