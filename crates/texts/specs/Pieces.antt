-- What the code prints, piece by piece, as the definitions have it.
use Rattle.std.specs.Prelude.{ℕ, List, [], ◌∷◌, ◌++◌, leb, length, map, ℤ, pos, negsuc}
use Rattle.base.specs.Choice.{pick}
use Rattle.base.specs.Text.{text, decimal}
use Rattle.texts.specs.Numbers.{minus_sign, written}
use Rattle.texts.specs.Complaints.{plain, longest_quoted}
use Rattle.grammar.specs.Slots.{slot_in}
use Rattle.rules.specs.District.{District, value_at}
use Rattle.rules.specs.Format.{field_at, Slot}
use Rattle.texts.specs.Records.{name_of, is_due}
use Rattle.texts.specs.Printing.{number_text}
use Rattle.texts.specs.declared.printing.Piece.{Piece}
use Rattle.texts.specs.declared.printing.Piece.TheVariants.{Bytes, Plain, Number, Written, Name}

abbrev pub sign_of : ℤ → List ℕ
sign_of (pos n) = []
sign_of (negsuc n) = minus_sign ∷ []

abbrev pub piece_text : Piece → List ℕ
piece_text (Bytes bytes) = bytes.now
piece_text (Plain bytes) = map plain bytes.now
piece_text (Number n) = decimal n
piece_text (Written v) = written v
piece_text (Name s) = name_of (slot_in s)

-- one after another
unfoldable pub pieces_text : List Piece → List ℕ
pieces_text [] = []
pieces_text (p ∷ ps) = piece_text p ++ pieces_text ps

-- behind the quoted bytes of a word
abbrev pub dots : List ℕ → List ℕ
dots w = pick (leb (length w) longest_quoted) [] (text "..")

-- the n-th number of a record, which stands at the place, where the district has it
abbrev pub due_text : District → Slot → ℕ → ℕ → List ℕ
due_text d s n place = pick (is_due d s n) (number_text (field_at d s n) (value_at d place)) []

-- no place's line has more bytes
abbrev pub longest_place : ℕ
longest_place = 170
