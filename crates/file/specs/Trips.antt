-- What is proved of load and export one after the other, and of the longest file.
use Rattle.std.specs.Prelude.{ℕ, ◌≤◌, ◌≡◌, true, false, ◌&&◌, List, [], eqb, length}
use Rattle.base.specs.Bytes.{Bytes}
use Rattle.grammar.specs.Places.{Form, Suits}
use Rattle.rules.specs.District.{District, fresh_district}
use Rattle.rules.specs.File.{found, decode_as, form_in, decode, encode_as, leaderless, encode, in_range}
use Rattle.rules.specs.Format.{leader_form}

pub record Trips (most : ℕ) : Type 0 where
  -- in each form that has room for its leaders, a district in the file's ranges is what its file loads as
  pub back_as : (form : ℕ) → Form form → (d : District) → in_range d ≡ true → Suits form d → decode_as form (encode_as form d) ≡ found d []
  -- the district that anything loads as is in the file's ranges, the form has room for its leaders, and a file of bytes is that district's
  pub forth_as :
      (form : ℕ) → Form form → (file d rest : List ℕ) → decode_as form file ≡ found d rest
      → (Bytes file → encode_as form d ≡ file) × (in_range d ≡ true) × Suits form d × (rest ≡ [])
  -- the same of the form that a file names and of the one that a district's file gets, but for files with leaders of which none is set
  pub back : (d : District) → in_range d ≡ true → decode (encode d) ≡ found d []
  pub forth :
      (file d rest : List ℕ) → decode file ≡ found d rest
      → (Bytes file → (eqb (form_in file) leader_form && leaderless d) ≡ false → encode d ≡ file) × (in_range d ≡ true) × (rest ≡ [])
  pub fresh : decode (encode fresh_district) ≡ found fresh_district []
  -- no district in the file's ranges has a longer file, and one has one as long
  pub longest : (form : ℕ) → Form form → (d : District) → in_range d ≡ true → length (encode_as form d) ≤ most
  pub some : (d : District) × (in_range d ≡ true) × (length (encode d) ≡ most)
