-- Where the numbers of each record stand in a district, whatever the form of the file.
use Rattle.std.specs.Prelude.{ℕ, zero, suc, ◌+◌, ◌≤◌, ◌<◌, ◌≡◌, true, ◌⊎◌, take}
use Rattle.rules.specs.District.{District, district_places}
use Rattle.rules.specs.File.{leaderless}
use Rattle.rules.specs.Format.{plain_form, leader_form, slot_of, most_places, present, field_at, Slot}

-- there are two forms
abbrev pub Form : ℕ → Type 0
Form form = (form ≡ plain_form) ⊎ (form ≡ leader_form)

-- the form has room for the leaders that are set: the plain one has room for none
abbrev pub Suits : ℕ → District → Type 0
Suits form d = form ≡ plain_form → leaderless d ≡ true

-- where the numbers of the n-th record start: they have the same places in both forms
abbrev pub start_of : ℕ → ℕ
start_of zero = 0
start_of (suc n) = start_of n + (slot_of leader_form n).places

-- the record s may stand with its numbers from a place on: they are within the district, and they hang on what stands before alone
pub record Ready (s : Slot) (place : ℕ) : Type 0 where
  pub room : place + s.places ≤ district_places
  pub few : s.places ≤ most_places
  pub here : (d : District) → present (take place d) s ≡ present d s
  pub field : (d : District) (n : ℕ) → n < s.places → field_at (take place d) s n ≡ field_at d s n
