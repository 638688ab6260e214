-- `phase1::prune` meets its contract: the segments passed are pruned.
use mathlib.Core.Path.{refl, sym, ◌∙◌}
use Rattle.phase1.proofs.Pruning.{pruned_none, pruned_nothing, pruned_led, pruned_unled}
use Rattle.phase1.proofs.prune.Goals as goal
use Rattle.phase1.proofs.prune.Goals.{then-choice-i-gt0+then-not-is_led, else-choice-i-gt0, else-choice-i-gt0-via-then-choice-i-gt0+else-not-is_led, else-choice-i-gt0-via-else-choice-i-gt0}

pub loop-i-init : goal.loop-i-init
loop-i-init c = (pruned_none _ _, λ e. refl)

pub loop-i-preserved : goal.loop-i-preserved
loop-i-preserved c =
    let l = c.loop-i in
    elim c.if-choice-i-gt0.branch [
      | then-choice-i-gt0+then-not-is_led w ↦
          rw (w.choice-is, w.lost-is)
          (pruned_unled _ l.i _ l.invariant.0 (sym w.is_led.ensures ∙ w.if-not-is_led.true), λ e. absurd cc)
      | else-choice-i-gt0 w ↦
          rw (w.choice-is, w.lost-is) (
            elim w.else-choice-i-gt0.branch [
              | else-choice-i-gt0-via-then-choice-i-gt0+else-not-is_led v ↦ pruned_led _ l.i _ l.invariant.0 (sym v.is_led.ensures ∙ v.if-not-is_led.false)
              | else-choice-i-gt0-via-else-choice-i-gt0 v ↦ pruned_nothing _ l.i _ l.invariant.0 v.if-choice-i-gt0.false
            ],
            l.invariant.1,
          )
    ]
