-- docs/FILE.md, "What a district holds": the records by their words and names, and how many numbers each has. All else of a record is in the
-- file's grammar (rules/specs/Format): a record is a line, and its numbers are those that take bytes of the file.
use Rattle.std.specs.Prelude.{ℕ, zero, suc, ◌+◌, Bool, List, [], ◌++◌, ltb, eqb}
use Rattle.base.specs.Choice.{pick}
use Rattle.base.specs.Over.{between}
use Rattle.base.specs.Text.{text, decimal}
use Rattle.rules.specs.District.{District}
use Rattle.rules.specs.Format.{plain_form, leader_form, field_at, Slot}
use Rattle.texts.specs.Words.{Word}

-- by kind
unfoldable pub word_of : ℕ → Word
word_of kind =
    pick (eqb kind plain_form) (text "district")
    (pick (eqb kind leader_form) (text "led-district")
    (pick (eqb kind 2) (text "limits")
    (pick (eqb kind 3) (text "greatest")
    (pick (eqb kind 4) (text "strategy")
    (pick (eqb kind 5) (text "pavement")
    (pick (eqb kind 6) (text "segment")
    (text "end")))))))

-- strategies, pavement types and segments are numbered
abbrev pub is_numbered : Slot → Bool
is_numbered s = between 4 6 s.kind

-- a record's name: its word, and which strategy, pavement type or segment it is
unfoldable pub name_of : Slot → List ℕ
name_of s = word_of s.kind ++ pick (is_numbered s) (text " " ++ decimal (s.nth + 1)) []

-- the district has the n-th number of the record
abbrev pub is_due : District → Slot → ℕ → Bool
is_due d s n = ltb 0 (field_at d s n).width

-- of m numbers of the record, from its n-th on, how many the district has
unfoldable pub due_in : ℕ → District → Slot → ℕ → ℕ
due_in zero d s n = 0
due_in (suc m) d s n = pick (is_due d s n) 1 0 + due_in m d s (n + 1)

-- in all, and before the n-th
abbrev pub due : District → Slot → ℕ
due d s = due_in s.places d s 0

abbrev pub due_before : District → Slot → ℕ → ℕ
due_before d s n = due_in n d s 0
