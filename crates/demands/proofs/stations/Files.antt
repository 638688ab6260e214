-- Files of districts in the file's ranges, and of what two offices share in them.
use Prim.Native.Nat.{ℕ}
use mathlib.Core.Path.{◌≡◌, refl}
use mathlib.Core.Bool.{true}
use mathlib.Core.List.{List}
use Rattle.rules.specs.District.{District, shared_tables}
use Rattle.rules.specs.File.{encode, in_range}
use Rattle.rules.specs.Calls.{load_refusal_of, load_refusal, loaded_of, district_in}
use Rattle.file.proofs.Forth.{loads_as}
use Rattle.file.proofs.Back.{decode_encode}
use Rattle.demands.proofs.stations.InRange.{tables_in_range}

-- such a district's file gives it back
pub reads : (d : District) → in_range d ≡ true → (load_refusal (encode d) ≡ 0) × (district_in (encode d) ≡ d)
unfolding load_refusal load_refusal_of district_in loaded_of
reads d ok = rw (decode_encode d ok) (refl, refl)

-- so does the file of the shared tables of a district that was loaded
pub tables_read :
    (file : List ℕ) → load_refusal file ≡ 0
    → (load_refusal (encode (shared_tables (district_in file))) ≡ 0) × (district_in (encode (shared_tables (district_in file))) ≡ shared_tables (district_in file))
tables_read file e = reads (shared_tables (district_in file)) (tables_in_range (district_in file) (loads_as file e).1)
