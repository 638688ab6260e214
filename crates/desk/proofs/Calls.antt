-- Calls of the station: what they leave.
use Prim.Native.Nat.{ℕ}
use Rattle.rules.specs.Desks.{Ask, desk_by, answer_to}
use Rattle.rules.specs.Lists.{Call}
use Rattle.rules.specs.Offices.{Plan, Send}
use Rattle.rules.specs.Stations.{StationCall, call_of}
use Rattle.rules.specs.declared.Sent.{Sent}
use Rattle.station.specs.Kept.{RepliesTo, PlansBoth, SendsBoth}
use Rattle.station.proofs.Replies.{plans_replies}
use Rattle.desk.specs.Kept.{DeskReply, Asks, Happens}
use Rattle.desk.specs.declared.Desk.{Desk}

module _ (d : Desk) (r : DeskReply) where
  pub call_happens : (c : StationCall) → Asks d (RepliesTo d.station c) r → Happens d (Ask c) r
  unfolding answer_to desk_by
  call_happens c asks h k =
      let reports = asks.reply h.held k.station in
      record { answer = reports.answer; desk = record { station = reports.station; queues = rw asks.queues k.queues } }

  pub plan_happens : (n : ℕ) (c : Call) → Asks d (PlansBoth d.station n c) r → Happens d (Ask (call_of n (Plan c))) r
  plan_happens n c asks = call_happens (call_of n (Plan c)) (record { reply = plans_replies d.station n c _ asks.reply; queues = asks.queues })

  pub send_happens : (n : ℕ) (sent : Sent) → Asks d (SendsBoth d.station n sent) r → Happens d (Ask (call_of n (Send sent))) r
  send_happens n sent asks = call_happens (call_of n (Send sent)) (record { reply = asks.reply.reports; queues = asks.queues })
