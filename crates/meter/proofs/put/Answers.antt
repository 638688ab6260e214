-- `meter::put` meets its contract.
use Rattle.std.proofs.Common.{refl, ap, arith, set}
use Rattle.meter.proofs.Windows.{put_holds}
use Rattle.meter.proofs.put.Goals as goal

pub returns : goal.returns
returns c =
    λ h bits H v l.
    let w = c.args.w.now in
    let replaced = c.replace-oldest.ensures in
    put_holds w _ c.args.x h bits H v l (ap (set w.readings _) replaced.after) (cc replaced.value) (omega (arith, c.min.ensures)) refl refl refl
