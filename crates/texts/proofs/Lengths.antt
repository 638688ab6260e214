-- How many bytes the line of a place has at most.
use Rattle.std.proofs.Common.{ℕ, ◌+◌, ◌≤◌, List, [], ◌++◌, length, ℤ, length-append, arith}
use Rattle.base.specs.Choice.{pick}
use Rattle.base.specs.Text.{text, decimal}
use Rattle.base.proofs.Choice.{pick_all}
use Rattle.base.proofs.Text.{decimal_few}
use Rattle.listing.specs.Listing.{refusal, longest_refusal}
use Rattle.listing.proofs.Lengths.{refusal_few}
use Rattle.rules.specs.Format.{Slot}
use Rattle.texts.specs.Numbers.{written}
use Rattle.texts.specs.Records.{word_of, is_numbered, name_of}
use Rattle.texts.specs.Complaints.{not_in}
use Rattle.texts.specs.Pieces.{longest_place}
use Rattle.texts.specs.Places.{Place, EndsWithin, OtherKind, OtherLength, OutOfRange, BehindEnd, refusal_at, record_named, place_text}
use Rattle.texts.proofs.Short.{written_short, kind_short, not_in_short}

behind_name : ℕ → List ℕ
behind_name n = text " " ++ decimal n

behind_few : (n : ℕ) → length (behind_name n) ≤ 21
unfolding behind_name text
behind_few n = omega (arith, decimal_few n)

name_few : (s : Slot) → length (name_of s) ≤ 33
unfolding name_of behind_name
name_few s =
    let which = pick (is_numbered s) (behind_name (s.nth + 1)) [] in
    omega (arith, length-append (word_of s.kind) which, kind_short s.kind, pick_all (λ (l : List ℕ). length l ≤ 21) (is_numbered s) (behind_name (s.nth + 1)) [] (behind_few (s.nth + 1)) (omega arith))

named_few : (p : ℕ) (s : Slot) → length (record_named p s) ≤ 63
unfolding text
named_few p s = omega (arith, length-append (decimal p) (text " (" ++ (name_of s ++ text ")")), decimal_few p, length-append (name_of s) (text ")"), name_few s)

-- what stands behind a record's name
abbrev number_told : ℕ → ℤ → ℤ → ℤ → List ℕ
number_told q v lo hi = text ", number " ++ (decimal q ++ (text ": " ++ (written v ++ (not_in lo hi ++ text "\n"))))

abbrev lengths_told : ℕ → ℕ → List ℕ
lengths_told size due = text ": " ++ (decimal size ++ (text " bytes stand where " ++ (decimal due ++ text " are due\n")))

told_few : (q : ℕ) (v lo hi : ℤ) → length (number_told q v lo hi) ≤ 107
unfolding text
told_few q v lo hi =
    omega (arith, length-append (decimal q) (text ": " ++ (written v ++ (not_in lo hi ++ text "\n"))), decimal_few q, length-append (written v) (not_in lo hi ++ text "\n"), written_short v, length-append (not_in lo hi) (text "\n"), not_in_short lo hi)

lengths_few : (size due : ℕ) → length (lengths_told size due) ≤ 70
unfolding text
lengths_few size due = omega (arith, length-append (decimal size) (text " bytes stand where " ++ (decimal due ++ text " are due\n")), decimal_few size, length-append (decimal due) (text " are due\n"), decimal_few due)

kinds_few : (p kind due : ℕ) → length (place_text (OtherKind p kind due)) ≤ 100
unfolding place_text text
kinds_few p kind due =
    omega
    (arith, decimal_few p, decimal_few kind, decimal_few due, length-append (decimal p) (text ": kind " ++ (decimal kind ++ (text " stands where " ++ (decimal due ++ text " is due\n")))), length-append (decimal kind) (text " stands where " ++ (decimal due ++ text " is due\n")), length-append (decimal due) (text " is due\n"))

pub place_few : (p : Place) → length (place_text p) ≤ longest_place
unfolding place_text text
place_few (EndsWithin p s) = omega (arith, length-append (record_named p s) (text ": the file ends within it\n"), named_few p s)
place_few (OtherKind p kind due) = omega (arith, kinds_few p kind due)
place_few (OtherLength p s size due) = omega (arith, length-append (record_named p s) (lengths_told size due), named_few p s, lengths_few size due)
place_few (OutOfRange p s q v lo hi) = omega (arith, length-append (record_named p s) (number_told q v lo hi), named_few p s, told_few q v lo hi)
place_few (BehindEnd n) = omega (arith, length-append (decimal n) (text " bytes follow the end\n"), decimal_few n)

pub refused_fits : (p : Place) (room : ℕ) → longest_refusal + longest_place ≤ room → length (refusal (refusal_at p) ++ place_text p) ≤ room
refused_fits p room h = omega (arith, h, length-append (refusal (refusal_at p)) (place_text p), refusal_few (refusal_at p), place_few p)
