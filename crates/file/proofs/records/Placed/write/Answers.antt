-- `write` meets its contract: the header to the front, the numbers to what follows.
use Rattle.base.proofs.Buffers.{Written}
use Rattle.base.proofs.Text.{put_front, put_last, last_fits, front_fits}
use Rattle.rules.specs.File.{number_bytes, record_bytes}
use Rattle.grammar.specs.Slots.{slot_in}
use Rattle.file.proofs.records.Placed.write.Goals as goal
use Rattle.file.proofs.records.Placed.write.Goals.{After-write_header-header}

-- the header is written, and the numbers are to come
now : (c : After-write_header-header) → let a = c.args in let s = slot_in a.self.slot in Written a.out.now (record_bytes a.d.now s a.self.place) (number_bytes a.self.slot.places a.d.now s 0 a.self.place) c.write_header-header.result c.write_header-header.new.out
now c = put_front _ _ c.write_header-header.ensures (front_fits _ _ c.requires)

pub write_header-header-requires : goal.write_header-header-requires
write_header-header-requires c = front_fits _ _ c.requires

pub write_numbers-requires : goal.write_numbers-requires
write_numbers-requires c = last_fits (now (goal.at.write_numbers-requires c).After-write_header-header) c.requires

pub returns : goal.returns
returns c = put_last (now (goal.at.returns c).After-write_header-header) c.requires c.write_numbers.ensures
