-- `write` meets its contract: the header to the front, the numbers to what follows.
use Rattle.base.proofs.Buffers.{Written}
use Rattle.base.proofs.Text.{put_front, put_last, last_fits, front_fits}
use Rattle.rules.specs.File.{number_bytes, record_bytes}
use Rattle.grammar.specs.Slots.{numbered_in}
use Rattle.file.proofs.numbered.write.Goals as goal
use Rattle.file.proofs.numbered.write.Goals.{After-write_header-header}

-- the header is written, and the numbers are to come
now : (c : After-write_header-header) → let a = c.args in let s = numbered_in a.slot in Written a.out.now (record_bytes a.d.now s a.place) (number_bytes s.places a.d.now s 0 a.place) c.write_header-header.result c.write_header-header.new.out
now c = put_front _ _ c.write_header-header.ensures (front_fits _ _ c.requires.room)

pub write_header-header-requires-clause-room : goal.write_header-header-requires-clause-room
write_header-header-requires-clause-room c = front_fits _ _ c.requires.room

pub write_numbers-requires-clause-room : goal.write_numbers-requires-clause-room
write_numbers-requires-clause-room c = last_fits (now (goal.at.write_numbers-requires-clause-room c).After-write_header-header) c.requires.room

pub returns : goal.returns
returns c = put_last (now (goal.at.returns c).After-write_header-header) c.requires.room c.write_numbers.ensures
