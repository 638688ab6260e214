-- `meter::roughness` meets its contract.
use Rattle.meter.proofs.Points.{sum_parts, no_points, some_points}
use Rattle.std.proofs.Common.{arith, length-take}
use Rattle.rules.specs.Meter.{window_of}
use Rattle.meter.proofs.roughness.Goals as goal

pub returns-then-w-eq0 : goal.returns-then-w-eq0
returns-then-w-eq0 c = λ h H. no_points _ h H c.if-w-eq0.true

pub returns : goal.returns
returns c =
    λ h H.
    some_points _ h H c.if-w-eq0.false _
    (c.mays_points.ensures (window_of h) (sum_parts _ h H _ c.parts_in-sum.ensures.parts)
    (let n = length-take 64 h.readings in omega (arith, c.min-count.ensures, H.count)))
