-- `rating::Treatment::minimum_reached` meets its contract.
use mathlib.Core.Path.{◌∙◌, ap, ap₂}
use native.Mathlib.Omega.{arith}
use mir.Syntax.{w64}
use Rattle.base.proofs.Integers.{told}
use Rattle.rules.specs.District.{minimum_of}
use Rattle.rules.specs.Rating.{reaches, minimum_reached}
use Rattle.rating.proofs.Places.{minimum_is}
use Rattle.rating.proofs.Treatment.minimum_reached.Goals as goal

pub pavement_at-required-requires : goal.pavement_at-required-requires
pavement_at-required-requires c = (c.pavement-pavement.ensures.there, omega (arith, c.row_place.ensures))

pub reaches-requires : goal.reaches-requires
reaches-requires c =
    let p = c.requires in
    let y = c.pavement-pavement.ensures.there in
    omega (arith, minimum_is c.args.self.now.ranged.district.now c.args.k c.args.t c.row_place.ensures c.pavement-pavement.result c.pavement_at-required.ensures, c.args.self.now.ranged.in_range.minimum _ _ _ y.0 y.1 p.1.0 p.1.1 p.2.0 p.2.1)

pub returns : goal.returns
unfolding minimum_reached
returns c =
    let s = c.args.self.now in
    let d = s.ranged.district.now in
    let k = c.args.k in
    let t = c.args.t in
    c.reaches.ensures
    ∙ ap₂ reaches (told w64 c.rating.type_inv c.rating.ensures)
    (minimum_is d k t c.row_place.ensures c.pavement-pavement.result c.pavement_at-required.ensures
    ∙ ap (λ y. minimum_of d y k t) c.pavement-pavement.ensures.value)
