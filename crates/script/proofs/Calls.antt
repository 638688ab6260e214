-- One call: what it comes to, and the zeros that an export or a page goes into.
use Prim.Native.Nat.{ℕ, min}
use mathlib.Core.Path.{◌≡◌, refl, sym, ap, ◌∙◌}
use mathlib.Core.List.{List}
use native.Mathlib.Nat.{min-le_right}
use lib.ListN.{take, replicate}
use Rattle.std.proofs.lemmas.List.{take-replicate}
use Rattle.std.specs.Prelude.{Option, None, Some, Result, Ok, Err}
use Rattle.std.specs.Result.{result_and}
use Rattle.rules.specs.Lists.{Call, Show}
use Rattle.rules.specs.Offices.{Plan}
use Rattle.rules.specs.Desks.{Step, Ask}
use Rattle.rules.specs.Stations.{StationCall, call_of}
use Rattle.rules.specs.Answers.{Answer, answer_in}
use Rattle.rules.specs.declared.Console.{Console}
use Rattle.rules.specs.declared.Edit.{Edit}
use Rattle.rules.specs.declared.Sent.{Sent}
use Rattle.rules.specs.declared.refusals.Refusal.{Refusal}
use Rattle.command.specs.declared.Command.{Command}
use Rattle.station.specs.Kept.{RepliesTo, Lends}
use Rattle.station.specs.Questions.{without_value}
use Rattle.station.proofs.Replies.{lent_replies}
use Rattle.desk.specs.Kept.{Happens, Steps, reply, stepped}
use Rattle.desk.specs.declared.Desk.{Desk}
use Rattle.desk.proofs.Calls.{call_happens}
use Rattle.desk.proofs.Steps.{step_happens}
use Rattle.script.specs.Script.{commanded}

-- a command without a call of its own
pub shown_else : (c : Command) (n : ℕ) (body : List ℕ) → ¬ (c ≡ Command.Load) → ¬ (c ≡ Command.Export) → ((e : Edit) → ¬ (c ≡ Command.Alter e))
    → ¬ (c ≡ Command.Page) → ((i j : ℕ) → ¬ (c ≡ Command.Why i j)) → ((s : Sent) → ¬ (c ≡ Command.Send s)) → ¬ (c ≡ Command.Roughness)
    → ¬ (c ≡ Command.Blocks) → commanded c n body ≡ Plan Show
unfolding commanded
shown_else Command.Load n body l x a p w s r b = absurd (l refl)
shown_else Command.Export n body l x a p w s r b = absurd (x refl)
shown_else (Command.Alter e) n body l x a p w s r b = absurd (a e refl)
shown_else Command.Show n body l x a p w s r b = refl
shown_else (Command.Points code degree extent seal) n body l x a p w s r b = refl
shown_else Command.Page n body l x a p w s r b = absurd (p refl)
shown_else (Command.Why i j) n body l x a p w s r b = absurd (w i j refl)
shown_else (Command.Send m) n body l x a p w s r b = absurd (s m refl)
shown_else Command.Roughness n body l x a p w s r b = absurd (r refl)
shown_else Command.Nothing n body l x a p w s r b = refl
shown_else Command.Unknown n body l x a p w s r b = refl
shown_else (Command.Office office) n body l x a p w s r b = refl
shown_else (Command.Queue console e) n body l x a p w s r b = refl
shown_else Command.Step n body l x a p w s r b = refl
shown_else Command.Blocks n body l x a p w s r b = absurd (b refl)

-- ---- calls that leave the desk as it is

left_out : {A : Type 0} (r : Result A Refusal) → without_value (answer_in r) ≡ answer_in (result_and r (Ok 0))
unfolding without_value
left_out (Ok value) = refl
left_out (Err refusal) = refl

module _ (d : Desk) where
  asked_happens : (c : StationCall) (answer : Answer) → RepliesTo d.station c (record { answer = answer; station = d.station }) → Happens d (Ask c) (record { answer = answer; desk = d })
  asked_happens c answer replies = call_happens d (record { answer = answer; desk = d }) c (record { reply = replies; queues = refl })

  lent_happens :
      (n : ℕ) (c : Call) (answer : Answer) (bytes : List ℕ) → Lends d.station n c answer bytes → Happens d (Ask (call_of n (Plan c))) (record { answer = answer; desk = d })
  lent_happens n c answer bytes lends = asked_happens (call_of n (Plan c)) answer (lent_replies d.station n c answer bytes lends)

  -- as many zeros as there is room for are lent to a call
  pub lent_zeros :
      (n : ℕ) (c : List ℕ → Call) (answer : Answer) (bytes : List ℕ) (size room most : ℕ) → size ≡ min room most
      → Lends d.station n (c (take {A = ℕ} size (replicate most 0))) answer bytes
      → Happens d (Ask (call_of n (Plan (c (replicate (min room most) 0))))) (record { answer = answer; desk = d })
  lent_zeros n c answer bytes size room most is lends =
      let zeros : take {A = ℕ} (min room most) (replicate most 0) ≡ replicate (min room most) 0 = take-replicate (min room most) most 0 (min-le_right room most) in
      lent_happens n (c (replicate (min room most) 0)) answer bytes (rw (is, zeros) at lends)

  -- an answer whose value is left out
  module _ {A : Type 0} (r : Result A Refusal) (s : Result ℕ Refusal) (is : s ≡ result_and r (Ok 0)) where
    left : without_value (answer_in r) ≡ answer_in s
    left = left_out r ∙ ap answer_in (sym is)

    pub asked_left_out : (c : StationCall) → RepliesTo d.station c (record { answer = without_value (answer_in r); station = d.station }) → Happens d (Ask c) (record { answer = answer_in s; desk = d })
    asked_left_out c replies = asked_happens c (answer_in s) (rw left at replies)

    pub lent_left_out : (n : ℕ) (c : Call) (bytes : List ℕ) → Lends d.station n c (without_value (answer_in r)) bytes → Happens d (Ask (call_of n (Plan c))) (record { answer = answer_in s; desk = d })
    lent_left_out n c bytes lends = lent_happens n c (answer_in s) bytes (rw left at lends)

-- ---- a step, its console left out

pub stepped_happens :
    (d p : Desk) (r : Option (Console × Result ℕ Refusal)) (a : Result ℕ Refusal) → (r ≡ None → a ≡ Ok 0)
    → ((t : Console × Result ℕ Refusal) → r ≡ Some t → a ≡ t.1) → Steps d (stepped r p) → Happens d Step (reply a p)
stepped_happens d p None a idle carried steps = rw (idle refl) (step_happens d _ steps)
stepped_happens d p (Some t) a idle carried steps = rw (carried t refl) (step_happens d _ steps)
