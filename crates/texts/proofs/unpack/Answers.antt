-- `unpack` meets its contract.
use Rattle.std.proofs.Common.{◌≡◌, List, ℕ, ◌++◌, Some, refl, arith}
use Rattle.listing.specs.Listing.{refusal}
use Rattle.grammar.proofs.Named.{is_form}
use Rattle.grammar.specs.Slots.{form_number}
use Rattle.texts.specs.Places.{Place, refusal_at, place_in, place_text}
use Rattle.texts.specs.Programs.{unpacked}
use Rattle.texts.proofs.Longest.{printed_short}
use Rattle.texts.proofs.Places.{text_unpacked}
use Rattle.texts.proofs.unpack.Goals as goal

place_unpacked : (file : List ℕ) (p : Place) → place_in file ≡ Some p → unpacked file ≡ refusal (refusal_at p) ++ place_text p
unfolding unpacked
place_unpacked file p e = rw e refl

pub put_text-requires : goal.put_text-requires
put_text-requires c =
    let form = c.in-Ok.form in
    omega (arith, printed_short (form_number form) (is_form form) c.read.new.d c.in-Ok.ensures.ranged)

pub returns-in-Ok : goal.returns-in-Ok
returns-in-Ok c =
    let r = c.in-Ok.ensures in
    rw (text_unpacked c.args.file.now r.place, ← r.form, ← r.district) c.put_text.ensures

pub returns-in-Err : goal.returns-in-Err
returns-in-Err c = rw (place_unpacked c.args.file.now _ c.in-Err.ensures.place) c.put_refused_at.ensures
