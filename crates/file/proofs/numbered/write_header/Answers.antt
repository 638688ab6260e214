-- `write_header` meets its contract: the length to the front, the kind to what follows.
use Rattle.std.proofs.Common.{◌≤◌, ◌≡◌, ◌++◌, length, sym, refl, ◌∙◌, arith}
use Rattle.base.specs.Bytes.{bytes_of}
use Rattle.base.proofs.Text.{put_front, put_last}
use Rattle.rules.specs.File.{size, header_bytes}
use Rattle.grammar.specs.Slots.{numbered_in}
use Rattle.file.proofs.Steps.{header_there, header_none}
use Rattle.file.proofs.numbered.write_header.Goals as goal
use Rattle.file.proofs.numbered.write_header.Goals.{Else-not-is_present}

there : (c : Else-not-is_present) → let a = c.args in header_bytes a.d.now (numbered_in a.slot) ≡ bytes_of 2 (size a.d.now (numbered_in a.slot)) ++ bytes_of 2 (numbered_in a.slot).kind
there c = header_there c.args.d.now (numbered_in c.args.slot) (sym c.is_present.ensures ∙ c.if-not-is_present.false)

-- the buffer has room for the four bytes
room : (c : Else-not-is_present) → 4 ≤ length c.args.out.now
room c = rw (there c) at c.requires.room

pub returns-then-not-is_present : goal.returns-then-not-is_present
returns-then-not-is_present c = rw (header_none c.args.d.now (numbered_in c.args.slot) (sym c.is_present.ensures ∙ c.if-not-is_present.true)) (record { count = refl; bytes = refl })

pub put-requires : goal.put-requires
put-requires c = let l = room (goal.at.put-requires c).Else-not-is_present in omega arith

pub returns : goal.returns
returns c =
    let at = (goal.at.returns c).Else-not-is_present in
    let first = put_front (bytes_of 2 c.payload.result) (bytes_of 2 c.args.slot.kind) (record { count = refl; bytes = c.put.ensures }) (omega (arith, room at)) in
    rw (there at, ← c.payload.ensures) (put_last first (room at) (record { count = refl; bytes = c.put-2.ensures }))
