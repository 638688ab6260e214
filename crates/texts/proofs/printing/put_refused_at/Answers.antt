-- `printing::put_refused_at` meets its contract: both lines have room.
use Rattle.std.proofs.Common.{arith}
use Rattle.listing.proofs.Pieces.{second_fits, put_two}
use Rattle.listing.specs.Listing.{refusal}
use Rattle.texts.specs.Places.{refusal_at, place_text}
use Rattle.texts.specs.Found.{place_of}
use Rattle.texts.proofs.Lengths.{refused_fits}
use Rattle.texts.proofs.printing.put_refused_at.Goals as goal

pub put_refused-at-requires : goal.put_refused-at-requires
put_refused-at-requires c = omega arith

pub put_place-requires : goal.put_place-requires
put_place-requires c =
    let p = place_of c.args.place in
    second_fits (refusal (refusal_at p)) (place_text p) (refused_fits p _ c.requires) (rw c.refusal_at.ensures at c.put_refused-at.ensures)

pub returns : goal.returns
returns c =
    let p = place_of c.args.place in
    put_two (refusal (refusal_at p)) (place_text p) (refused_fits p _ c.requires) (rw c.refusal_at.ensures at c.put_refused-at.ensures) c.put_place.ensures
