-- Loading and exporting in a form that is given. The calls take the form that the file names, and the form of the district's file.
use Rattle.std.specs.Prelude.{ℕ, List, leb, length}
use Rattle.rules.specs.Answers.{buffer_too_short, unless}
use Rattle.rules.specs.Calls.{load_refusal_of, loaded_of, Export, exported}
use Rattle.rules.specs.District.{District}
use Rattle.rules.specs.File.{decode_as, encode_as}

-- what refuses the file, 0 where nothing does, and else the district that it loads as
abbrev pub load_refusal_as : ℕ → List ℕ → ℕ
load_refusal_as form file = load_refusal_of (decode_as form file)

abbrev pub district_as : ℕ → List ℕ → District
district_as form file = loaded_of (decode_as form file)

abbrev pub exported_as : ℕ → District → List ℕ → Export
exported_as form d buffer = exported (unless (leb (length (encode_as form d)) (length buffer)) buffer_too_short 0) (encode_as form d) buffer
