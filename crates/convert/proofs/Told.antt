-- What is printed where up, or down, has answered.
use Prim.Native.Nat.{ℕ, zero, suc, ◌≤◌}
use mathlib.Core.Path.{◌≡◌, refl, sym, ap, ◌∙◌}
use mathlib.Core.List.{List}
use native.Mathlib.Omega.{arith}
use lib.ListN.{length}
use Rattle.base.specs.Text.{Put}
use Rattle.rules.specs.Answers.{buffer_too_short, Answer}
use Rattle.rules.specs.Calls.{Export}
use Rattle.rules.specs.Conversions.{up_refusal, up_file, down_refusal, down_file, turned_into, up_of, down_of}
use Rattle.rules.specs.File.{longest_file}
use Rattle.file.proofs.Refusals.{exported_fits}
use Rattle.listing.specs.Listing.{or_refusal}
use Rattle.convert.specs.Printed.{up_printed, down_printed, Told}
use Rattle.convert.proofs.Loads.{turned_refused}
use Rattle.convert.proofs.Turns.{up_fits, down_fits}

-- with room for the new file
turned_put :
    (n : ℕ) (new old out last : List ℕ) (answer : Answer) (count : ℕ)
    → (n ≡ 0 → length new ≤ length old) → record { answer = answer; buffer = out } ≡ turned_into n new old → Told answer out last count
    → Put (or_refusal n new) old last count
unfolding or_refusal Told turned_into
turned_put zero new old out last answer count room e t =
    let whole = e ∙ sym (exported_fits (length new) buffer_too_short new old (room refl)) in
    let k = rw (ap (λ (x : Export). x.answer) whole) at t in
    record { count = k.0; bytes = k.1 ∙ ap (λ (x : Export). x.buffer) whole }
turned_put (suc n) new old out last answer count room e t =
    let whole = e ∙ sym (turned_refused (suc n) new old (λ z. omega arith)) in
    rw (ap (λ (x : Export). x.answer) whole, ap (λ (x : Export). x.buffer) whole) at t

-- no new file is longer than the longest
module _ (file old out last : List ℕ) (answer : Answer) (count : ℕ) (room : longest_file ≤ length old) (t : Told answer out last count) where
  pub up_put : record { answer = answer; buffer = out } ≡ up_of file old → Put (up_printed file) old last count
  unfolding up_of up_printed
  up_put e = turned_put (up_refusal file) (up_file file) old out last answer count (λ z. omega (arith, up_fits file z)) e t

  pub down_put : record { answer = answer; buffer = out } ≡ down_of file old → Put (down_printed file) old last count
  unfolding down_of down_printed
  down_put e = turned_put (down_refusal file) (down_file file) old out last answer count (λ z. omega (arith, down_fits file z)) e t
