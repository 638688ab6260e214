-- docs/FILE.md, "The complaints": what may be wrong with a text, and what is printed of it.
use Rattle.std.specs.Prelude.{ℕ, List, [], ◌++◌, map, leb, length, take, ℤ}
use Rattle.base.specs.Choice.{pick}
use Rattle.base.specs.Over.{between}
use Rattle.base.specs.Text.{text, decimal}
use Rattle.texts.specs.Words.{Word}
use Rattle.texts.specs.Numbers.{written}
use Rattle.texts.specs.Records.{word_of}

-- no text has more bytes
abbrev pub longest_text : ℕ
longest_text = 65_536

-- what is wrong with a line. A word due is given by the kind of its record
pub data Fault : Type 0 where
  -- a word that is not the word due
  OtherWord : Word → ℕ → Fault
  -- so many numbers stand there, and so many are due
  NumberMissing : ℕ → ℕ → Fault
  NoNumber : Word → Fault
  -- a word, and the least and the greatest number that may stand there
  OutOfRange : Word → ℤ → ℤ → Fault
  -- so many are due
  NumberTooMany : ℕ → Fault
  BehindEnd : Fault
  -- the word that is still due
  EndMissing : ℕ → Fault

-- what is wrong with a text: its length, or a line, by its number
pub data Complaint : Type 0 where
  TooLong : Complaint
  InLine : ℕ → Fault → Complaint

-- ---- what is printed

-- "A quoted word": its first 20 bytes, with dots where it has more; '?' for a byte that is no plain letter
abbrev pub longest_quoted : ℕ
longest_quoted = 20

abbrev pub plain : ℕ → ℕ
plain b = pick (between 32 126 b) b 63

unfoldable pub quoted : Word → List ℕ
quoted w = text "'" ++ (map plain (take longest_quoted w) ++ (pick (leb (length w) longest_quoted) [] (text "..") ++ text "'"))

-- "The word due", in quotes, never cut
unfoldable pub quoted_due : ℕ → List ℕ
quoted_due kind = text "'" ++ (word_of kind ++ text "'")

-- a range as it is named to people, here and where a file is refused
unfoldable pub not_in : ℤ → ℤ → List ℕ
not_in lo hi = text " is not " ++ (written lo ++ (text " to " ++ written hi))

unfoldable pub fault_text : Fault → List ℕ
fault_text (OtherWord w kind) = quoted w ++ (text " is not the word due (" ++ (quoted_due kind ++ text ")"))
fault_text (NumberMissing stand due) = text "a number is missing (" ++ (decimal stand ++ (text " of " ++ (decimal due ++ text ")")))
fault_text (NoNumber w) = quoted w ++ text " is not a number"
fault_text (OutOfRange w lo hi) = w ++ not_in lo hi
fault_text (NumberTooMany due) = text "a number too many (" ++ (decimal due ++ text " are due)")
fault_text BehindEnd = text "something follows the end"
fault_text (EndMissing kind) = text "the end is missing (" ++ (quoted_due kind ++ text " is due)")

-- a line of its own
unfoldable pub complaint_text : Complaint → List ℕ
complaint_text TooLong = text "the text is longer than " ++ (decimal longest_text ++ text " bytes\n")
complaint_text (InLine n f) = text "line " ++ (decimal n ++ (text ": " ++ (fault_text f ++ text "\n")))
