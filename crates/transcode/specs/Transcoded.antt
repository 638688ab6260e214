-- What transcode answers to the bytes of a frame.
use Rattle.std.specs.Prelude.{ℕ, zero, suc, ◌+◌, List, [], ◌∷◌, ◌++◌, length}
use Rattle.base.specs.Bytes.{bytes_of}
use Rattle.rules.specs.Calls.{load_refusal, district_in}
use Rattle.rules.specs.District.{District}
use Rattle.rules.specs.File.{encode, longest_file}

-- what stands before an exported file: 0, and its length in 4 bytes
abbrev pub head_of : ℕ → List ℕ
head_of n = 0 ∷ bytes_of 4 n

abbrev pub head_bytes : ℕ
head_bytes = 5

unfoldable pub framed : List ℕ → List ℕ
framed file = head_of (length file) ++ file

abbrev pub longest_framed : ℕ
longest_framed = head_bytes + longest_file

-- a refusal's number, or the file that the district is exported as
unfoldable pub transcoded_as : ℕ → District → List ℕ
transcoded_as zero d = framed (encode d)
transcoded_as (suc n) d = suc n ∷ []

unfoldable pub transcoded : List ℕ → List ℕ
transcoded file = transcoded_as (load_refusal file) (district_in file)
