-- A district in the file's ranges is what its file loads as.
use Prim.Native.Nat.{ℕ, zero, suc, ◌+◌, ◌^◌, ◌≤◌, ◌<◌}
use mathlib.Core.Path.{◌≡◌, refl, sym, ap, ◌∙◌}
use mathlib.Core.Bool.{Bool, true, false}
use mathlib.Core.List.{List, [], ◌++◌, append_assoc}
use native.Mathlib.Nat.{add-zero, zero-add}
use native.Mathlib.Omega.{arith}
use lib.ListN.{length, take, drop, length-append}
use lib.Seq.{take_at, drop_at, take-add}
use Rattle.base.proofs.Bytes.{length_bytes, number_bytes_lem}
use Rattle.base.specs.Bytes.{bytes_of, number_of}
use Rattle.rules.specs.District.{District, value_at}
use Rattle.rules.specs.File.{found, size, read_numbers, read_record, read_records, decode_as, decode, number_bytes, record_bytes, records_bytes, encode_as, form_of, encode, in_range}
use Rattle.rules.specs.Format.{slot_of, present, field_at, inside, file_records, Slot}
use Rattle.grammar.specs.Places.{Form, Suits, start_of, Ready}
use Rattle.grammar.proofs.InRange.{InRange}
use Rattle.grammar.proofs.Forms.{form_range, form_fits}
use Rattle.grammar.proofs.Slots.{form_all, slot_all, start_next, ready}
use Rattle.file.proofs.TwoForms.{form_of_lem, suits_own, form_encoded}
use Rattle.file.proofs.Steps.{widths_small, widths_take, number_good, value_more, all_places, length_numbers, header_there, header_none, record_none, record_there, records_found}

-- what is written first is read first
module _ (w x : ℕ) (ys rest : List ℕ) where
  first_read : x < 256 ^ w → x ≡ number_of (take w ((bytes_of w x ++ ys) ++ rest))
  first_read h = sym (number_bytes_lem w x h) ∙ ap number_of (sym (take_at (bytes_of w x) (ys ++ rest) w (length_bytes w x)) ∙ ap (take w) (sym (append_assoc (bytes_of w x) ys rest)))

  first_left : drop w ((bytes_of w x ++ ys) ++ rest) ≡ ys ++ rest
  first_left = ap (drop w) (append_assoc (bytes_of w x) ys rest) ∙ drop_at (bytes_of w x) (ys ++ rest) w (length_bytes w x)

-- ---- a record, whose numbers stand from a place on, with what stands before it

module _ (d : District) (s : Slot) (place : ℕ) (r : Ready s place) (room : place + s.places ≤ length d) (good : (i : ℕ) → i < s.places → inside (field_at d s i) (value_at d (place + i)) ≡ true) (fits : (i : ℕ) → i < s.places → value_at d (place + i) < 256 ^ (field_at d s i).width) (small : s.kind < 65536) where
  numbers_back : (m n : ℕ) (rest : List ℕ) → n + m ≤ s.places → read_numbers m (take place d) s n (take n (drop place d)) (number_bytes m d s n (place + n) ++ rest) ≡ found (take (n + m) (drop place d)) rest
  unfolding read_numbers number_bytes
  numbers_back zero n rest h = rw add-zero
  numbers_back (suc m) n rest h =
      let f = field_at d s n in
      let x = value_at d (place + n) in
      let ys = number_bytes m d s (n + 1) (place + n + 1) in
      let e : place + n + 1 ≡ place + (n + 1) = omega arith in
      let q : n + 1 + m ≡ n + suc m = omega arith in
      let ih = rw q at (numbers_back m (n + 1) rest (omega arith)) in
      number_good m (take place d) s n (take n (drop place d)) ((bytes_of f.width x ++ ys) ++ rest) f x (sym (r.field d n (omega arith))) (first_read f.width x ys rest (fits n (omega arith))) (good n (omega arith))
      ∙ rw (first_left f.width x ys rest, value_more d place n (omega arith), e) ih

  module _ (rest : List ℕ) where
    all_back : read_numbers s.places (take place d) s 0 [] (number_bytes s.places d s 0 place ++ rest) ≡ found (take s.places (drop place d)) rest
    all_back = rw (add-zero, zero-add) at (numbers_back s.places 0 rest (omega arith))

    there_back : present d s ≡ true → read_record (take place d) s (((bytes_of 2 (size d s) ++ bytes_of 2 s.kind) ++ number_bytes s.places d s 0 place) ++ rest) ≡ found (take s.places (drop place d)) rest
    there_back t =
        let z : size (take place d) s ≡ size d s = widths_take r d s.places 0 (omega arith) in
        let N = number_bytes s.places d s 0 place in
        let e = length-append N rest in
        let l = length_numbers s.places d s 0 place in
        record_there (take place d) s (((bytes_of 2 (size d s) ++ bytes_of 2 s.kind) ++ N) ++ rest) (r.here d ∙ t) (omega arith) (number_bytes_lem 2 s.kind (omega arith)) (number_bytes_lem 2 (size d s) (omega (arith, r.few, widths_small s.places d s 0)) ∙ sym z) (omega arith)
        ∙ all_back

    record_back : read_record (take place d) s (record_bytes d s place ++ rest) ≡ found (take s.places (drop place d)) rest
    record_back = go (present d s) refl
      where
        go : (b : Bool) → present d s ≡ b → read_record (take place d) s (record_bytes d s place ++ rest) ≡ found (take s.places (drop place d)) rest
        go true t = ap (λ (H : List ℕ). read_record (take place d) s ((H ++ number_bytes s.places d s 0 place) ++ rest)) (header_there d s t) ∙ there_back t
        go false t = ap (λ (H : List ℕ). read_record (take place d) s ((H ++ number_bytes s.places d s 0 place) ++ rest)) (header_none d s t) ∙ record_none (take place d) s _ (r.here d ∙ t) ∙ all_back

-- ---- the file

kind_small : (form : ℕ) → Form form → (n : ℕ) → (slot_of form n).kind < 65536
kind_small form f = slot_all (λ (s : Slot). s.kind < 65536) form (form_all (λ (g : ℕ). g < 65536) (omega arith) (omega arith) form f) (omega arith) (omega arith) (λ n. omega arith) (λ n. omega arith) (λ n. omega arith) (omega arith)

module _ (form : ℕ) (f : Form form) (d : District) (ok : InRange form d) where
  records_back : (m n : ℕ) → n + m ≡ file_records → read_records form m n (take (start_of n) d) (records_bytes form m d n (start_of n)) ≡ found d []
  unfolding read_records records_bytes
  records_back zero n e = ap (λ (l : List ℕ). found l []) (all_places d ok.places n (omega arith))
  records_back (suc m) n e =
      let p = start_of n in
      let s = slot_of form n in
      let r = ready form f n (omega arith) in
      let rest = records_bytes form m d (n + 1) (p + s.places) in
      let k = record_back d s p r (omega (arith, r.room, ok.places)) (λ i h. ok.values n i (omega arith) h) (λ i h. form_fits form f d ok n i (omega arith) h) (kind_small form f n) rest in
      let ih = rw (start_next form n) at (records_back m (n + 1) (omega arith)) in
      records_found form m n (take p d) (record_bytes d s p ++ rest) (take s.places (drop p d)) rest k
      ∙ ap (λ (l : List ℕ). read_records form m (n + 1) l rest) (sym (take-add p s.places d))
      ∙ ih

-- of each form,
pub decode_encode_as : (form : ℕ) → Form form → (d : District) → in_range d ≡ true → Suits form d → decode_as form (encode_as form d) ≡ found d []
unfolding decode_as encode_as
decode_encode_as form f d e s = records_back form f d (form_range form f d e s) file_records 0 refl

-- also where the file's first kind says which,
pub decode_own : (form : ℕ) → Form form → (d : District) → in_range d ≡ true → Suits form d → decode (encode_as form d) ≡ found d []
unfolding decode
decode_own form f d e s = rw (form_encoded form f d) (decode_encode_as form f d e s)

-- and of the form that the district's file gets
pub decode_encode : (d : District) → in_range d ≡ true → decode (encode d) ≡ found d []
unfolding encode
decode_encode d e = decode_own (form_of d) (form_of_lem d) d e (suits_own d)
