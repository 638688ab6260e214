-- `cards::read` meets its contract: the first card that is refused refuses the deck.
use Rattle.std.proofs.Common.{◌≡◌, ◌∙◌, arith}
use Rattle.std.proofs.lemmas.Result.{err_from_is_err_and}
use Rattle.base.specs.Over.{listed_from}
use Rattle.rules.specs.Deck.{segment_in}
use Rattle.rules.specs.District.{segments_of}
use Rattle.rules.proofs.RefusalNumbers.{numbered}
use Rattle.cards.specs.Cards.{no_segments}
use Rattle.cards.proofs.Decks.{title_bad, none_yet, counts_are, within, counts_bad, segment_bad, all_good, segment_refused, segment_good, segment_held}
use Rattle.base.proofs.Listed.{fill_none}
use Rattle.cards.proofs.read.Goals as goal

pub returns-in_err-nth-clause-refused : goal.returns-in_err-nth-clause-refused
returns-in_err-nth-clause-refused c =
    let p = err_from_is_err_and c.from_residual.result c.from_residual.ensures.1 in
    rw (p.1, p.2, c.in_err-nth.ensures.1) (title_bad c.args.deck.now c.in_err-nth.ensures.0)

pub returns-in_err-counts-clause-refused : goal.returns-in_err-counts-clause-refused
returns-in_err-counts-clause-refused c =
    let p = err_from_is_err_and c.from_residual-in_err-counts.result c.from_residual-in_err-counts.ensures.1 in
    rw (p.1, p.2) (counts_bad c.args.deck.now c.in_ok-nth.ensures.0 _ (numbered _) c.in_err-counts.ensures.refused)

pub loop-i-init : goal.loop-i-init
unfolding listed_from
loop-i-init c = record { none = none_yet c.args.deck.now; held = fill_none (segment_in c.args.deck.now) 1 no_segments }

pub overflow_add-i : goal.overflow_add-i
overflow_add-i c = let h = within c.args.deck.now c.loop-i.i (counts_are c.args.deck.now c.in_ok-counts.ensures.numbers) c.loop-i-test.true in omega arith

pub read_card-requires-in-loop-i : goal.read_card-requires-in-loop-i
read_card-requires-in-loop-i c = let h = within c.args.deck.now c.loop-i.i (counts_are c.args.deck.now c.in_ok-counts.ensures.numbers) c.loop-i-test.true in omega arith

pub returns-in_err-segments-clause-refused : goal.returns-in_err-segments-clause-refused
returns-in_err-segments-clause-refused c =
    let deck = c.args.deck.now in
    let l = c.loop-i in
    let are = counts_are deck c.in_ok-counts.ensures.numbers in
    let p = err_from_is_err_and c.from_residual-in_err-segments.result c.from_residual-in_err-segments.ensures.1 in
    rw (p.1, p.2)
    (segment_bad deck c.in_ok-nth.ensures.0 c.in_ok-counts.ensures.refused l.i _ (rw are at c.loop-i-test.true) l.invariant.none (numbered _)
    (c.in_err-segments.ensures.refused ∙ segment_refused deck l.i are))

pub bounds-segments-i : goal.bounds-segments-i
bounds-segments-i c = let h = within c.args.deck.now c.loop-i.i (counts_are c.args.deck.now c.in_ok-counts.ensures.numbers) c.loop-i-test.true in omega arith

pub offset_bounds-segments-i : goal.offset_bounds-segments-i
offset_bounds-segments-i c = let h = within c.args.deck.now c.loop-i.i (counts_are c.args.deck.now c.in_ok-counts.ensures.numbers) c.loop-i-test.true in omega arith

pub loop-i-preserved : goal.loop-i-preserved
loop-i-preserved c =
    let deck = c.args.deck.now in
    let l = c.loop-i in
    let are = counts_are deck c.in_ok-counts.ensures.numbers in
    record {
      none = segment_good deck l.i are l.invariant.none c.in_ok-segments.ensures.refused;
      held = segment_held deck l.i are c.in_ok-segments.field-0 (within deck l.i are c.loop-i-test.true) l.invariant.held c.in_ok-segments.ensures.numbers;
    }

pub returns-clause-refused : goal.returns-clause-refused
returns-clause-refused c =
    let deck = c.args.deck.now in
    let are = counts_are deck c.in_ok-counts.ensures.numbers in
    let end : c.loop-i.i ≡ segments_of c.in_ok-counts.counts = omega arith in
    all_good deck c.in_ok-nth.ensures.0 c.in_ok-counts.ensures.refused (rw (end, are) at c.loop-i.invariant.none)

pub returns-clause-says : goal.returns-clause-says
returns-clause-says c =
    let are = counts_are c.args.deck.now c.in_ok-counts.ensures.numbers in
    let end : c.loop-i.i ≡ segments_of c.in_ok-counts.counts = omega arith in
    record { counts = are; segments = rw (end, are) at c.loop-i.invariant.held }
