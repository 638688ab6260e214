-- `printing::put_name` meets its contract: the word, and for some kinds which one it is.
use Rattle.std.proofs.Common.{◌+◌, ap, ◌∙◌, sym, arith}
use Rattle.base.specs.Text.{text, decimal, digits_of}
use Rattle.base.proofs.Text.{put_within}
use Rattle.grammar.specs.Slots.{slot_in}
use Rattle.listing.proofs.Pieces.{second_of_three_fits, third_fits, put_three}
use Rattle.texts.specs.Records.{word_of}
use Rattle.texts.proofs.Lined.{word_fits, numbered, unnumbered, sizes}
use Rattle.texts.proofs.printing.put_name.Goals as goal

pub put-word-requires : goal.put-word-requires
put-word-requires c = word_fits (slot_in c.args.s) (c.word_of.ensures ∙ ap word_of c.kind_number.ensures) c.requires

pub returns-then-not-is_numbered : goal.returns-then-not-is_numbered
returns-then-not-is_numbered c =
    rw (unnumbered (slot_in c.args.s) (sym c.if-not-is_numbered.ensures) (c.word_of.ensures ∙ ap word_of c.kind_number.ensures)) c.put-word.ensures

pub put-requires : goal.put-requires
unfolding text
put-requires c =
    let e = numbered (slot_in c.args.s) (sym c.if-not-is_numbered.ensures) (c.word_of.ensures ∙ ap word_of c.kind_number.ensures) in
    second_of_three_fits c.word_of.result.now (text " ") (decimal (c.args.s.nth + 1)) (rw e at c.requires) c.put-word.ensures

pub put_digits-requires : goal.put_digits-requires
unfolding text decimal
put_digits-requires c =
    let e = numbered (slot_in c.args.s) (sym c.if-not-is_numbered.ensures) (c.word_of.ensures ∙ ap word_of c.kind_number.ensures) in
    third_fits c.word_of.result.now (text " ") (digits_of 20 (c.args.s.nth + 1)) (rw e at c.requires) c.put-word.ensures c.put.ensures

pub returns : goal.returns
unfolding text decimal
returns c =
    let e = numbered (slot_in c.args.s) (sym c.if-not-is_numbered.ensures) (c.word_of.ensures ∙ ap word_of c.kind_number.ensures) in
    rw e (put_three c.word_of.result.now (text " ") (digits_of 20 (c.args.s.nth + 1)) (rw e at c.requires) c.put-word.ensures c.put.ensures c.put_digits.ensures)

pub slice_bounds-put-count : goal.slice_bounds-put-count
slice_bounds-put-count c = put_within c.put-word.ensures

pub overflow_add-at : goal.overflow_add-at
unfolding text decimal
overflow_add-at c =
    let e = numbered (slot_in c.args.s) (sym c.if-not-is_numbered.ensures) (c.word_of.ensures ∙ ap word_of c.kind_number.ensures) in
    omega (arith, sizes c.word_of.result.now (text " ") (digits_of 20 (c.args.s.nth + 1)) (rw e at c.requires))

pub slice_bounds-put_digits-count : goal.slice_bounds-put_digits-count
unfolding text decimal
slice_bounds-put_digits-count c =
    let e = numbered (slot_in c.args.s) (sym c.if-not-is_numbered.ensures) (c.word_of.ensures ∙ ap word_of c.kind_number.ensures) in
    omega (arith, sizes c.word_of.result.now (text " ") (digits_of 20 (c.args.s.nth + 1)) (rw e at c.requires))

pub overflow_add-result : goal.overflow_add-result
unfolding text decimal
overflow_add-result c =
    let e = numbered (slot_in c.args.s) (sym c.if-not-is_numbered.ensures) (c.word_of.ensures ∙ ap word_of c.kind_number.ensures) in
    omega (arith, sizes c.word_of.result.now (text " ") (digits_of 20 (c.args.s.nth + 1)) (rw e at c.requires))
