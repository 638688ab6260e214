-- `printing::put_numbers` meets its contract.
use Rattle.std.proofs.Common.{◌≡◌, ◌-◌, ◌+◌, arith}
use Rattle.base.proofs.Text.{put_all, put_more, tail_fits}
use Rattle.grammar.specs.Slots.{slot_in}
use Rattle.texts.specs.Pieces.{due_text}
use Rattle.texts.specs.Printing.{numbers_text}
use Rattle.texts.proofs.Lined.{number_next}
use Rattle.texts.proofs.printing.put_numbers.Goals as goal

pub put_due-at-requires-clause-room : goal.put_due-at-requires-clause-room
put_due-at-requires-clause-room c =
    let a = c.args in
    let l = c.loop-i in
    tail_fits (due_text a.d.now (slot_in a.s) l.i (a.place + l.i)) _ (number_next a.d.now (slot_in a.s) a.s.places l.i a.place (omega arith) l.invariant) c.requires.room

pub loop-i-preserved : goal.loop-i-preserved
loop-i-preserved c =
    let a = c.args in
    let l = c.loop-i in
    put_more (due_text a.d.now (slot_in a.s) l.i (a.place + l.i)) _ (number_next a.d.now (slot_in a.s) a.s.places l.i a.place (omega arith) l.invariant) c.requires.room c.put_due-at.ensures

pub returns : goal.returns
unfolding numbers_text
returns c =
    let none : c.args.s.places - c.loop-i.i ≡ 0 = omega arith in
    put_all (rw none at c.loop-i.invariant)
