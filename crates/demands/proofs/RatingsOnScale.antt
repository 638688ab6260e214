-- After any list of calls the ratings of the district held stay on their scale, since a file, and every edit, keeps each current rating at most the
-- greatest.
use native.Mathlib.Omega.{arith}
use Rattle.rules.specs.Lists.{district_after}
use Rattle.grammar.proofs.InRanges.{in_ranges}
use Rattle.theorems.specs.Scale.{RatingsOnScale}
use Rattle.theorems.proofs.Scale.{on_scale}
use Rattle.demands.proofs.Lists.{after_in}

pub ratings_on_scale : RatingsOnScale
ratings_on_scale cs =
    let ok = in_ranges (district_after cs) (after_in cs) in
    let n = ok.segments in
    let m = ok.distresses in
    on_scale (district_after cs) (λ i k a b e f. ok.rating i k a (omega arith) e (omega arith))
