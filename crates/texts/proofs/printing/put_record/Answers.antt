-- `printing::put_record` meets its contract: the word, the numbers, and what ends the line.
use Rattle.std.proofs.Common.{◌++◌, ap, sym, ◌∙◌, arith}
use Rattle.base.specs.Text.{text}
use Rattle.base.proofs.Text.{front_fits, put_within}
use Rattle.grammar.specs.Slots.{slot_in}
use Rattle.listing.proofs.Pieces.{second_of_three_fits, third_fits, put_three}
use Rattle.texts.specs.Records.{word_of}
use Rattle.texts.specs.Printing.{numbers_text, comment_of}
use Rattle.texts.proofs.Lined.{recorded, sizes}
use Rattle.texts.proofs.printing.put_record.Goals as goal

pub put-at-requires : goal.put-at-requires
put-at-requires c =
    let s = slot_in c.args.s in
    let e = recorded c.args.d.now s c.args.place (sym c.if-not-is_present.ensures) (c.word_of.ensures ∙ ap word_of c.kind_number.ensures) in
    front_fits c.word_of.result.now (numbers_text s.places c.args.d.now s 0 c.args.place ++ (comment_of s ++ text "\n")) (rw e at c.requires.room)

pub put_numbers-at-requires-clause-room : goal.put_numbers-at-requires-clause-room
put_numbers-at-requires-clause-room c =
    let s = slot_in c.args.s in
    let e = recorded c.args.d.now s c.args.place (sym c.if-not-is_present.ensures) (c.word_of.ensures ∙ ap word_of c.kind_number.ensures) in
    second_of_three_fits c.word_of.result.now (numbers_text s.places c.args.d.now s 0 c.args.place) (comment_of s ++ text "\n") (rw e at c.requires.room) c.put-at.ensures

pub put_numbers-at-requires-clause-within : goal.put_numbers-at-requires-clause-within
put_numbers-at-requires-clause-within c = c.requires.within

pub put_ending-requires : goal.put_ending-requires
put_ending-requires c =
    let s = slot_in c.args.s in
    let e = recorded c.args.d.now s c.args.place (sym c.if-not-is_present.ensures) (c.word_of.ensures ∙ ap word_of c.kind_number.ensures) in
    third_fits c.word_of.result.now (numbers_text s.places c.args.d.now s 0 c.args.place) (comment_of s ++ text "\n") (rw e at c.requires.room) c.put-at.ensures c.put_numbers-at.ensures

pub returns : goal.returns
returns c =
    let s = slot_in c.args.s in
    let e = recorded c.args.d.now s c.args.place (sym c.if-not-is_present.ensures) (c.word_of.ensures ∙ ap word_of c.kind_number.ensures) in
    rw e
    (put_three c.word_of.result.now (numbers_text s.places c.args.d.now s 0 c.args.place) (comment_of s ++ text "\n") (rw e at c.requires.room) c.put-at.ensures c.put_numbers-at.ensures c.put_ending.ensures)

pub slice_bounds-put_numbers-count : goal.slice_bounds-put_numbers-count
slice_bounds-put_numbers-count c = put_within c.put-at.ensures

pub overflow_add-at : goal.overflow_add-at
overflow_add-at c =
    let s = slot_in c.args.s in
    let e = recorded c.args.d.now s c.args.place (sym c.if-not-is_present.ensures) (c.word_of.ensures ∙ ap word_of c.kind_number.ensures) in
    omega (arith, sizes c.word_of.result.now (numbers_text s.places c.args.d.now s 0 c.args.place) (comment_of s ++ text "\n") (rw e at c.requires.room))

pub slice_bounds-put_ending-count : goal.slice_bounds-put_ending-count
slice_bounds-put_ending-count c =
    let s = slot_in c.args.s in
    let e = recorded c.args.d.now s c.args.place (sym c.if-not-is_present.ensures) (c.word_of.ensures ∙ ap word_of c.kind_number.ensures) in
    omega (arith, sizes c.word_of.result.now (numbers_text s.places c.args.d.now s 0 c.args.place) (comment_of s ++ text "\n") (rw e at c.requires.room))

pub overflow_add-result : goal.overflow_add-result
overflow_add-result c =
    let s = slot_in c.args.s in
    let e = recorded c.args.d.now s c.args.place (sym c.if-not-is_present.ensures) (c.word_of.ensures ∙ ap word_of c.kind_number.ensures) in
    omega (arith, sizes c.word_of.result.now (numbers_text s.places c.args.d.now s 0 c.args.place) (comment_of s ++ text "\n") (rw e at c.requires.room))
