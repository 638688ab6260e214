-- The longest file is that of a district with every count at its greatest. No number is wider in any other.
use Prim.Native.Nat.{ℕ, zero, suc, ◌+◌, ◌-◌, ◌≤◌}
use mathlib.Core.Path.{◌≡◌, refl, ◌∙◌}
use mathlib.Core.Bool.{Bool, true, false}
use mathlib.Core.List.{List, [], ◌∷◌, ◌++◌}
use native.Mathlib.Omega.{arith}
use lib.ListN.{length, replicate}
use Rattle.base.specs.Bytes.{bytes_of}
use Rattle.base.specs.Choice.{pick}
use Rattle.base.specs.Over.{all}
use Rattle.rules.specs.District.{District, greatest_of, leader_of, with_leader, most_resources, most_distresses, most_segments, strategies_at, segments_at, bars_at, per_segment}
use Rattle.rules.specs.File.{widths, size, header_bytes, encode_as, leaderless, form_of, encode, numbers_in_range, records_in_range, in_range, longest_file}
use Rattle.rules.specs.Format.{plain_form, leader_form, ranged, slot_of, present, field_at, file_records, most_counts, Slot}
use Rattle.grammar.specs.Places.{Form}
use Rattle.grammar.proofs.InRange.{InRange, in_range_lem}
use Rattle.grammar.proofs.Slots.{form_all}
use Rattle.file.proofs.Steps.{total, length_records}
use Rattle.file.proofs.Tops.{widest, present_top, field_top}
use Rattle.file.proofs.TwoForms.{form_of_lem}

-- a district with every count at its greatest, a leader, and else the smallest numbers that the file may hold
least_segments : ℕ → List ℕ
least_segments zero = []
least_segments (suc n) = 1 ∷ 100 ∷ 100 ∷ 1 ∷ 1 ∷ replicate (per_segment - bars_at) 0 ++ least_segments n

pub full : District
full = with_leader (most_counts ++ (replicate most_resources 0 ++ (replicate most_distresses 1 ++ (replicate (segments_at - strategies_at) 0 ++ least_segments most_segments)))) most_segments 1

length_file : (form : ℕ) (d : District) → length (encode_as form d) ≡ total form file_records d 0
unfolding encode_as
length_file form d = length_records form d file_records 0 0

module _ (d : District) (ok : InRange leader_form d) where
  width_top : (s : Slot) (n : ℕ) → (field_at d s n).width ≤ (field_at widest s n).width
  width_top s n = field_top d ok (λ f. f.width) refl (λ w lo hi top h. omega arith) s n

  widths_top : (m : ℕ) (s : Slot) (n : ℕ) → widths m d s n ≤ widths m widest s n
  widths_top zero s n = omega arith
  widths_top (suc m) s n = omega (arith, width_top s n, widths_top m s (n + 1))

  header_top : (s : Slot) → length (header_bytes d s) ≤ length (header_bytes widest s)
  header_top s = go (present d s) (present widest s) (present_top d ok s) (bytes_of 2 (size d s) ++ bytes_of 2 s.kind) (bytes_of 2 (size widest s) ++ bytes_of 2 s.kind) (omega arith)
    where
      go : (a b : Bool) → (a ≡ true → b ≡ true) → (x y : List ℕ) → length x ≤ length y → length (pick a x []) ≤ length (pick b y [])
      go true true i x y h = h
      go true false i x y h = absurd (cc (i refl))
      go false b i x y h = omega arith

  total_top : (form m n : ℕ) → total form m d n ≤ total form m widest n
  unfolding total
  total_top form zero n = omega arith
  total_top form (suc m) n =
      let s = slot_of form n in
      omega (arith, header_top s, widths_top s.places s 0, total_top form m (n + 1))

-- in the plain form there is a byte less for each of 64 segments
total_most : total leader_form file_records widest 0 ≡ longest_file
unfolding widest total field_at
total_most = refl

total_plain : total plain_form file_records widest 0 + most_segments ≡ longest_file
unfolding widest total field_at
total_plain = refl

chain : {a b c m : ℕ} → a ≡ b → b ≤ c → c ≤ m → a ≤ m
chain e h f = omega arith

pub longest_as : (form : ℕ) → Form form → (d : District) → in_range d ≡ true → length (encode_as form d) ≤ longest_file
longest_as form f d e = chain (length_file form d) (total_top d (in_range_lem d e) form file_records 0) most
  where
    most : total form file_records widest 0 ≤ longest_file
    most = form_all (λ (g : ℕ). total g file_records widest 0 ≤ longest_file) (omega (arith, total_plain)) (omega (arith, total_most)) form f

pub longest : (d : District) → in_range d ≡ true → length (encode d) ≤ longest_file
unfolding encode
longest d e = longest_as (form_of d) (form_of_lem d) d e

-- ---- one is as long

pub full_in_range : in_range full ≡ true
unfolding full least_segments greatest_of ranged field_at numbers_in_range records_in_range in_range
full_in_range = refl

full_led : form_of full ≡ leader_form
unfolding full least_segments leader_of all leaderless form_of
full_led = refl

pub full_long : length (encode full) ≡ longest_file
unfolding total full least_segments field_at encode
full_long = rw full_led (length_file leader_form full ∙ refl)
