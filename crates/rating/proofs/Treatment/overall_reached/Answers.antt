-- `rating::Treatment::overall_reached` meets its contract.
use mathlib.Core.Path.{◌∙◌, ap, ap₂}
use native.Mathlib.Omega.{arith}
use mir.Syntax.{w64}
use Rattle.base.proofs.Integers.{told}
use Rattle.rules.specs.District.{overall_of}
use Rattle.rules.specs.Rating.{reaches, overall_reached}
use Rattle.rating.proofs.Places.{overall_is}
use Rattle.rating.proofs.Treatment.overall_reached.Goals as goal

pub pavement_at-required-requires : goal.pavement_at-required-requires
pavement_at-required-requires c = (c.pavement-pavement.ensures.there, omega arith)

pub reaches-requires : goal.reaches-requires
reaches-requires c =
    let y = c.pavement-pavement.ensures.there in
    omega (arith, overall_is c.args.self.now.ranged.district.now c.pavement-pavement.result c.pavement_at-required.ensures, c.args.self.now.ranged.in_range.overall _ y.0 y.1)

pub returns : goal.returns
unfolding overall_reached
returns c =
    c.reaches.ensures
    ∙ ap₂ reaches (told w64 c.first_ratings.type_inv c.first_ratings.ensures) (overall_is c.args.self.now.ranged.district.now c.pavement-pavement.result c.pavement_at-required.ensures ∙ ap (overall_of _) c.pavement-pavement.ensures.value)
