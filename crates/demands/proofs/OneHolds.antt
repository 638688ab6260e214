-- Request 4, after any list of calls: for every segment and every strategy of the district one of the nine reasons is the answer, and it is the
-- first that holds.
use Prim.Native.Nat.{ℕ, ◌≤◌}
use mathlib.Core.Path.{◌≡◌, refl}
use mathlib.Core.Bool.{true}
use Rattle.std.specs.Prelude.{Option, None, Some}
use native.Mathlib.Omega.{arith}
use lib.ListN.{length}
use Rattle.rules.specs.District.{District, most_segments, segments_of}
use Rattle.rules.specs.File.{in_range}
use Rattle.rules.specs.Reasons.{or_last, hindrance, reason_for}
use Rattle.rules.specs.Calls.{bar_refusal, show_of}
use Rattle.rules.specs.Lists.{district_after, unit_after}
use Rattle.rules.specs.Demands.{leaders_worth, strategy_in, Sound}
use Rattle.rules.specs.declared.Programme.{Programme}
use Rattle.rules.specs.declared.Reason.{Reason}
use Rattle.theorems.specs.Reasons.{Explained, OneHolds}
use Rattle.theorems.proofs.Promises as promises
use Rattle.theorems.proofs.Reasons.{explained_some}
use Rattle.theorems.proofs.LastReason.{last_explained}
use Rattle.grammar.proofs.Edits.{bar_numbers}
use Rattle.demands.proofs.EveryReason.{why_accepted}
use Rattle.demands.proofs.Lists.{after_in, few_after, lower_after, district_after_lem, begun_after, begins_after, programme_after}
use Rattle.demands.proofs.OneClaim.{one_claim}

module _
    (d : District) (p : Programme) (i j : ℕ) (sound : Sound d p) (worth : leaders_worth d (strategy_in p) ≡ true) (room : segments_of d ≤ length p.strategies)
    (ok : in_range d ≡ true) where
  reason_explained : bar_refusal d i j ≡ 0 → Explained d p.strategies i j (reason_for d p.strategies i j)
  unfolding reason_for
  reason_explained e = rw ok (go (hindrance d p.strategies i j) refl)
    where
      go : (o : Option Reason) → hindrance d p.strategies i j ≡ o → Explained d p.strategies i j (or_last o)
      go (Some r) f = explained_some d p.strategies i j r f
      go None f =
          let w = bar_numbers d i j e in
          last_explained d p i j sound worth room w.0 w.1 w.2 w.3 f

pub one_holds : OneHolds
unfolding show_of
one_holds cs i j e =
    let claim = one_claim cs in
    let few = few_after cs in
    let worth : leaders_worth (district_after cs) (strategy_in (show_of (unit_after cs))) ≡ true = rw (programme_after cs) (promises.worth (district_after cs) few (begun_after cs) (begins_after cs) (lower_after cs)) in
    let places : length (show_of (unit_after cs)).strategies ≡ most_segments = claim.shown.places in
    let room : segments_of (district_after cs) ≤ length (show_of (unit_after cs)).strategies = omega arith in
    record {
      reason = reason_for (district_after cs) (show_of (unit_after cs)).strategies i j;
      answer = rw (← district_after_lem cs) (why_accepted (unit_after cs) i j (rw (district_after_lem cs) e));
      explained = reason_explained (district_after cs) (show_of (unit_after cs)) i j claim.sound worth room (after_in cs) e;
    }
