-- Demand 2, of every file that loads: the export that follows is the file, or its plain form where leaders could stand and none is set.
use Prim.Native.Nat.{ℕ, ◌≤◌}
use mathlib.Core.Path.{◌≡◌}
use mathlib.Core.List.{List}
use borrow.Author.Tests.{le-leb}
use lib.Dec.{eqb}
use lib.ListN.{length}
use Rattle.rules.specs.District.{District}
use Rattle.std.proofs.lemmas.Bool.{and_parts}
use Rattle.rules.specs.Format.{plain_form, leader_form}
use Rattle.rules.specs.File.{form_in, leaderless, encode_as, encode}
use Rattle.rules.specs.Answers.{answer_of, accepting}
use Rattle.rules.specs.Calls.{load_refusal, district_in, export_refusal, unit_with, answered, load_of, exported, export_of}
use Rattle.rules.specs.Demands.{file_in, EveryFile}
use Rattle.rules.specs.Blocks.{no_blocks}
use Rattle.rules.specs.declared.Choice.{Choice}
use Rattle.rules.specs.declared.Unit.{Unit}
use Rattle.file.proofs.TwoForms.{encode_plain}
use Rattle.file.proofs.Forth.{loads_as}

-- an export of a district whose file has room
pub exports :
    (x : Choice) (d : District) (file buffer : List ℕ) → encode d ≡ file → length file ≤ length buffer → export_of (unit_with x d) buffer ≡ file_in file buffer
unfolding export_of unit_with export_refusal exported answer_of accepting
exports x d file buffer e room = rw (e, le-leb (length file) (length buffer) room)

-- the unit after a load that is not refused
held : (u : Unit) (file : List ℕ) → load_refusal file ≡ 0 → (load_of u file).unit ≡ unit_with no_blocks (district_in file)
unfolding load_of answered accepting
held u file none = rw none

pub every_file : EveryFile
every_file file =
    record {
      same = λ bytes none led u buffer room. rw (held u file none) (exports no_blocks (district_in file) file buffer ((loads_as file none).0 bytes led) room);
      plain = λ none led u buffer room.
          let d = district_in file in
          rw (held u file none)
          (exports no_blocks d (encode_as plain_form d) buffer (encode_plain d (and_parts (eqb (form_in file) leader_form) (leaderless d) led).1) room);
    }
