-- Document 01, "The district and its file" and the upper half of "Where a call is refused", with the form of document 02's request 8: what any
-- bytes load as, and a district's file.
-- While a file is read, d holds the values of the records before: all that the next record's kinds, widths and ranges depend on.
use Rattle.std.specs.Prelude.{ℕ, zero, suc, ◌+◌, ◌-◌, Bool, true, ◌&&◌, List, [], ◌∷◌, ◌++◌, ltb, eqb, length, get_or, take, drop}
use Rattle.base.specs.Choice.{pick}
use Rattle.base.specs.Bytes.{bytes_of, number_of}
use Rattle.base.specs.Over.{all}
use Rattle.rules.specs.District.{District, district_places, segments_of, leader_of}
use Rattle.rules.specs.Format.{plain_form, leader_form, field_at, present, slot_of, file_records, inside, Slot}
use Rattle.rules.specs.Answers.{cut_short, other_kind, other_length, out_of_range, bytes_follow}
use Rattle.rules.specs.declared.Field.{Field}

-- what bytes are read as: a refusal by its number, or values and the bytes that follow
pub data Read : Type 0 where
  refused : ℕ → Read
  found : List ℕ → List ℕ → Read

-- the number that stands first in the bytes
abbrev pub value : Field → List ℕ → ℕ
value f bs = number_of (take f.width bs)

-- the bytes of m numbers of the record s, from its n-th on; d are the values of the records before
abbrev pub widths : ℕ → District → Slot → ℕ → ℕ
widths zero d s n = 0
widths (suc m) d s n = (field_at d s n).width + widths m d s (n + 1)

-- a record's length: its payload's bytes
abbrev pub size : District → Slot → ℕ
size d s = widths s.places d s 0

-- m numbers of the record s, from its n-th on, after the numbers vs
unfoldable pub read_numbers : ℕ → District → Slot → ℕ → List ℕ → List ℕ → Read
read_numbers zero d s n vs bs = found vs bs
read_numbers (suc m) d s n vs bs =
    let f = field_at d s n in
    let x = value f bs in
    pick (inside f x) (read_numbers m d s (n + 1) (vs ++ x ∷ []) (drop f.width bs)) (refused out_of_range)

-- the kind of the record that stands first in the bytes
abbrev pub kind_in : List ℕ → ℕ
kind_in bs = number_of (take 2 (drop 2 bs))

-- the record s: its length and kind, 2 bytes each, and its payload; the refusals stand in their order
unfoldable pub read_record : District → Slot → List ℕ → Read
read_record d s bs =
    pick (present d s)
    (pick (ltb (length bs) 4) (refused cut_short)
    (pick (eqb (kind_in bs) s.kind)
    (pick (eqb (number_of (take 2 bs)) (size d s))
    (pick (ltb (length bs - 4) (size d s)) (refused cut_short)
    (read_numbers s.places d s 0 [] (drop 4 bs)))
    (refused other_length))
    (refused other_kind)))
    (read_numbers s.places d s 0 [] bs)

-- what follows a reading that is not refused
abbrev pub and_then : Read → (List ℕ → List ℕ → Read) → Read
and_then (refused n) next = refused n
and_then (found vs bs) next = next vs bs

-- m records of a form, from the n-th of the file on, where d are the values before
unfoldable pub read_records : ℕ → ℕ → ℕ → District → List ℕ → Read
read_records form zero n d [] = found d []
read_records form zero n d (b ∷ bs) = refused bytes_follow
read_records form (suc m) n d bs =
    and_then (read_record d (slot_of form n) bs) (λ vs rest. read_records form m (n + 1) (d ++ vs) rest)

-- what the bytes of a file load as, in the form given
unfoldable pub decode_as : ℕ → List ℕ → Read
decode_as form bs = read_records form file_records 0 [] bs

-- the form that a file's first kind names; every other file is read as one without leaders
abbrev pub form_in : List ℕ → ℕ
form_in bs = pick (eqb (kind_in bs) leader_form) leader_form plain_form

unfoldable pub decode : List ℕ → Read
decode bs = decode_as (form_in bs) bs

-- ---- the file of a district

-- m numbers of the record s, from its n-th on, which stand in the district from a place on
unfoldable pub number_bytes : ℕ → District → Slot → ℕ → ℕ → List ℕ
number_bytes zero d s n place = []
number_bytes (suc m) d s n place = bytes_of (field_at d s n).width (get_or d place 0) ++ number_bytes m d s (n + 1) (place + 1)

abbrev pub header_bytes : District → Slot → List ℕ
header_bytes d s = pick (present d s) (bytes_of 2 (size d s) ++ bytes_of 2 s.kind) []

abbrev pub record_bytes : District → Slot → ℕ → List ℕ
record_bytes d s place = header_bytes d s ++ number_bytes s.places d s 0 place

unfoldable pub records_bytes : ℕ → ℕ → District → ℕ → ℕ → List ℕ
records_bytes form zero d n place = []
records_bytes form (suc m) d n place =
    record_bytes d (slot_of form n) place ++ records_bytes form m d (n + 1) (place + (slot_of form n).places)

unfoldable pub encode_as : ℕ → District → List ℕ
encode_as form d = records_bytes form file_records d 0 0

-- no segment has a leader
unfoldable pub leaderless : District → Bool
leaderless d = all (segments_of d) (λ i. eqb (leader_of d i) 0)

unfoldable pub form_of : District → ℕ
form_of d = pick (leaderless d) plain_form leader_form

unfoldable pub encode : District → List ℕ
encode d = encode_as (form_of d) d

-- of all districts (file/proofs/Longest.antt)
abbrev pub longest_file : ℕ
longest_file = 3_852

-- ---- a district in the file's ranges

-- m numbers of the record s, from its n-th on, with which vs begins
unfoldable pub numbers_in_range : ℕ → District → Slot → ℕ → List ℕ → Bool
numbers_in_range zero d s n vs = true
numbers_in_range (suc m) d s n vs = inside (field_at d s n) (get_or vs 0 0) && numbers_in_range m d s (n + 1) (drop 1 vs)

-- m records, from the n-th of the file on
unfoldable pub records_in_range : ℕ → District → ℕ → List ℕ → Bool
records_in_range zero d n vs = true
records_in_range (suc m) d n vs =
    let s = slot_of leader_form n in
    numbers_in_range s.places d s 0 vs && records_in_range m d (n + 1) (drop s.places vs)

-- every number of the district is one that a file with leaders may hold
unfoldable pub in_range : District → Bool
in_range d = eqb (length d) district_places && records_in_range file_records d 0 d
