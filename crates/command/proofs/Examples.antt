-- Lines, and what they are read as.
use Prim.Native.Nat.{ℕ}
use mathlib.Core.List.{List, [], ◌∷◌, ◌++◌, map}
use mathlib.Core.Path.{◌≡◌, refl}
use Rattle.std.specs.Prelude.{Option, None, Some}
use lib.ListN.{replicate}
use Rattle.base.specs.Text.{text, up_to, on_from, value_from, held}
use Rattle.rules.specs.declared.Edit.TheVariants.{Bar, Unbar, SetLimit, SetRating, SetLeader}
use Rattle.rules.specs.declared.Sent.TheVariants.{Index, Marker, Lost}
use Rattle.command.specs.declared.Command.{Command}
use Rattle.command.specs.declared.Command.TheVariants.{Nothing, Unknown, Load, Export, Alter, Show, Points, Page, Why, Send, Roughness, Office, Queue, Step, Blocks}
use Rattle.base.specs.Same.{same}
use Rattle.command.specs.Reading.{is_space, number_in, first_number, after_number, with_number, arguments, placed, path_of, is_path, has_stroke, blocks_from, blocks_in, row_in, row, rows, taken, meant, called, edit_in, queued_as, queued_in, is_comment, command_in}

pub lines : List (List ℕ)
unfolding text
lines =
    text "load a b" ∷ text "export x" ∷ text "bar 1 2" ∷ text "unbar 3 4" ∷ text "limit 1 007" ∷ text "rating 1 2 3" ∷ text "show" ∷ text "points 8 3 3 1" ∷ text "page" ∷ text "why 2 1"
    ∷ text "index 1083598848" ∷ text "marker 4294967295" ∷ text "lost" ∷ text "roughness"
    ∷ text "index 4294967296" ∷ text "marker 18446744073709551615" ∷ text "index" ∷ text "marker 1 2" ∷ text "index -1" ∷ text "lost 1" ∷ text "lost "
    ∷ text "roughness 1" ∷ text "roughnes" ∷ text "roughness9"
    ∷ text "leader 3 1" ∷ text "leader 3 0" ∷ text "leader 3" ∷ text "leader 3 1 0" ∷ text "leaders 3 1" ∷ text "leade 3 1"
    ∷ text "office 2" ∷ text "office 18446744073709551615" ∷ text "office 18446744073709551616" ∷ text "office" ∷ text "office 1 2" ∷ text "offices 1"
    ∷ text "queue 1 bar 1 2" ∷ text "queue 2 unbar 3 4" ∷ text "queue 0 limit 1 007" ∷ text "queue 18446744073709551615 rating 1 2 3" ∷ text "queue 04 leader 3 0"
    ∷ text "queue" ∷ text "queue 1" ∷ text "queue 1 " ∷ text "queue  1 bar 1 2" ∷ text "queue 1  bar 1 2" ∷ text "queue 1 bar 1 2 " ∷ text "queue 1 bar 1"
    ∷ text "queue bar 1 2" ∷ text "queue 18446744073709551616 bar 1 2" ∷ text "queue 1 show" ∷ text "queue 1 queue 1 bar 1 2" ∷ text "queue 1 load a" ∷ text "queue 1 step"
    ∷ text "queue 1 lost" ∷ text "queue 1 office 2" ∷ text "queue1 bar 1 2" ∷ text "queues 1 bar 1 2" ∷ text "queue\t1 bar 1 2"
    ∷ text "step" ∷ text "step 1" ∷ text "step " ∷ text "steps"
    ∷ text "blocks" ∷ text "blocks 1 2 3 / 3 4 0" ∷ text "blocks " ∷ text "block" ∷ text "blocks\t" ∷ text "queue 1 blocks"
    ∷ text "limit 1 18446744073709551615" ∷ text "limit 1 18446744073709551616" ∷ text "limit 1 000000000000000000001" ∷ text "limit 1 -1"
    ∷ text "" ∷ text " \t\r" ∷ text "# bar 1 2" ∷ text " # bar 1 2" ∷ (35 ∷ replicate 5000 32) ∷ replicate 4097 32 ∷ replicate 4096 32
    ∷ text "bar 1  2" ∷ text "bar  1 2" ∷ text " bar 1 2" ∷ text "bar 1 2 " ∷ text "bar" ∷ text "bar 1" ∷ text "bar 1 2 3" ∷ text "bar1 2" ∷ text "barn 1 2" ∷ text "Bar 1 2" ∷ text "ba 1 2"
    ∷ text "show " ∷ text "show 1" ∷ text "shows" ∷ text "points 8 3 3" ∷ text "points 8 3 3 1 0" ∷ text "rating 1 2 3\r" ∷ text "page 1" ∷ text "pages" ∷ text "why" ∷ text "why 2" ∷ text "why 2 1 1"
    ∷ text "load  a" ∷ text "load " ∷ text "load" ∷ text "loads a" ∷ text "load\ta" ∷ text "export" ∷ text "exports x"
    ∷ (text "load " ++ replicate 255 120) ∷ (text "load " ++ replicate 256 120) ∷ (text "load " ++ (0 ∷ [])) ∷ (255 ∷ []) ∷ []

pub readings : List Command
readings =
    Load ∷ Export ∷ Alter (Bar 1 2) ∷ Alter (Unbar 3 4) ∷ Alter (SetLimit 1 7) ∷ Alter (SetRating 1 2 3) ∷ Show ∷ Points 8 3 3 1 ∷ Page ∷ Why 2 1
    ∷ Send (Index 1083598848) ∷ Send (Marker 4294967295) ∷ Send Lost ∷ Roughness ∷ Unknown ∷ Unknown
    ∷ Unknown ∷ Unknown ∷ Unknown ∷ Unknown ∷ Unknown ∷ Unknown ∷ Unknown ∷ Unknown
    ∷ Alter (SetLeader 3 1) ∷ Alter (SetLeader 3 0) ∷ Unknown ∷ Unknown ∷ Unknown ∷ Unknown
    ∷ Office 2 ∷ Office 18446744073709551615 ∷ Unknown ∷ Unknown ∷ Unknown ∷ Unknown
    ∷ Queue 1 (Bar 1 2) ∷ Queue 2 (Unbar 3 4) ∷ Queue 0 (SetLimit 1 7) ∷ Queue 18446744073709551615 (SetRating 1 2 3) ∷ Queue 4 (SetLeader 3 0)
    ∷ Unknown ∷ Unknown ∷ Unknown ∷ Unknown ∷ Unknown ∷ Unknown ∷ Unknown
    ∷ Unknown ∷ Unknown ∷ Unknown ∷ Unknown ∷ Unknown ∷ Unknown
    ∷ Unknown ∷ Unknown ∷ Unknown ∷ Unknown ∷ Unknown
    ∷ Step ∷ Unknown ∷ Unknown ∷ Unknown
    ∷ Blocks ∷ Blocks ∷ Blocks ∷ Unknown ∷ Unknown ∷ Unknown
    ∷ Alter (SetLimit 1 18446744073709551615) ∷ Unknown ∷ Unknown ∷ Unknown
    ∷ Nothing ∷ Nothing ∷ Nothing ∷ Unknown ∷ Nothing ∷ Unknown ∷ Nothing
    ∷ Unknown ∷ Unknown ∷ Unknown ∷ Unknown ∷ Unknown ∷ Unknown ∷ Unknown ∷ Unknown ∷ Unknown ∷ Unknown ∷ Unknown
    ∷ Unknown ∷ Unknown ∷ Unknown ∷ Unknown ∷ Unknown ∷ Unknown ∷ Unknown ∷ Unknown ∷ Unknown ∷ Unknown ∷ Unknown
    ∷ Load ∷ Unknown ∷ Unknown ∷ Unknown ∷ Unknown ∷ Unknown ∷ Unknown
    ∷ Load ∷ Unknown ∷ Unknown ∷ Unknown ∷ []

pub lines_read : map command_in lines ≡ readings
unfolding lines readings text up_to on_from value_from held same is_space number_in first_number after_number with_number arguments placed path_of is_path row rows taken meant called edit_in queued_as queued_in is_comment command_in
lines_read = refl

-- the path is all that follows the blank
pub paths_read : map path_of (text "load a b" ∷ text "export  x " ∷ text "load " ∷ text "load" ∷ text "" ∷ []) ≡ text "a b" ∷ text " x " ∷ [] ∷ [] ∷ [] ∷ []
unfolding text on_from path_of
paths_read = refl

-- rows of three numbers for each block, and of none
pub row_lines : List (List ℕ)
unfolding text
row_lines =
    text "blocks" ∷ text "blocks 1 2 3" ∷ text "blocks 1 2 3 / 3 4 0" ∷ text "blocks 0 18446744073709551615 007 / 0 0 0 / 0 0 0 / 0 0 0 / 9 8 7"
    ∷ text "blocks " ∷ text "blocks /" ∷ text "blocks 1 2" ∷ text "blocks 1 2 3 " ∷ text "blocks 1 2 3 4" ∷ text "blocks 1 2 3 /" ∷ text "blocks 1 2 3 / 3 4"
    ∷ text "blocks / 1 2 3" ∷ text "blocks 1 2 3 / / 3 4 0" ∷ text "blocks 1 2 3 3 4 0" ∷ text "blocks 1 2 / 3" ∷ text "blocks 1 2 3/3 4 0" ∷ text "blocks 1 2 3 /3 4 0"
    ∷ text "blocks 1 2 3  / 3 4 0" ∷ text "blocks  1 2 3" ∷ text "blocks 1 2 18446744073709551616" ∷ text "blocks 1 2 -3" ∷ []

pub rows_read :
    map (row_in 3) row_lines
    ≡ Some [] ∷ Some (1 ∷ 2 ∷ 3 ∷ []) ∷ Some (1 ∷ 2 ∷ 3 ∷ 3 ∷ 4 ∷ 0 ∷ []) ∷ Some (0 ∷ 18446744073709551615 ∷ 7 ∷ 0 ∷ 0 ∷ 0 ∷ 0 ∷ 0 ∷ 0 ∷ 0 ∷ 0 ∷ 0 ∷ 9 ∷ 8 ∷ 7 ∷ [])
    ∷ None ∷ None ∷ None ∷ None ∷ None ∷ None ∷ None
    ∷ None ∷ None ∷ None ∷ None ∷ None ∷ None
    ∷ None ∷ None ∷ None ∷ None ∷ []
unfolding row_lines text up_to on_from value_from held number_in first_number after_number with_number has_stroke blocks_from blocks_in row_in
rows_read = refl
