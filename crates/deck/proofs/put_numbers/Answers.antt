-- `deck::put_numbers` meets its contract.
use Rattle.std.proofs.Common.{ℕ, ◌+◌, ◌≤◌, ◌<◌, List, ◌++◌, length, get_or, drop, arith}
use Rattle.base.specs.Text.{text}
use Rattle.base.proofs.Buffers.{Written}
use Rattle.base.proofs.Text.{put_more, put_last, tail_fits, last_fits}
use Rattle.listing.specs.Listing.{named}
use Rattle.deck.specs.Printed.{numbers_line}
use Rattle.deck.proofs.Printed.{numbers_next, numbers_end}
use Rattle.deck.proofs.put_numbers.Goals as goal

-- a number is to come
next :
    {old whole out : List ℕ} {at : ℕ} (ns : List ℕ) (k : ℕ) → k < length ns → Written old whole (numbers_line (drop k ns)) at out
    → Written old whole (named (text " ") (get_or ns k 0) ++ numbers_line (drop (k + 1) ns)) at out
next ns k h w = rw (numbers_next ns k h) at w

-- the end of the line is to come
end : {old whole out : List ℕ} {at : ℕ} (ns : List ℕ) (k : ℕ) → length ns ≤ k → Written old whole (numbers_line (drop k ns)) at out → Written old whole (text "\n") at out
end ns k h w = rw (numbers_end ns k h) at w

pub put_named-at-requires : goal.put_named-at-requires
unfolding text
put_named-at-requires c =
    let l = c.loop-number in
    let ns = c.args.numbers.now in
    tail_fits (named (text " ") (get_or ns l.number-index 0)) _ (next ns l.number-index (omega arith) l.invariant) c.requires

pub loop-number-preserved : goal.loop-number-preserved
unfolding text
loop-number-preserved c =
    let l = c.loop-number in
    let ns = c.args.numbers.now in
    put_more (named (text " ") (get_or ns l.number-index 0)) _ (next ns l.number-index (omega arith) l.invariant) c.requires c.put_named-at.ensures

pub put-requires : goal.put-requires
unfolding text
put-requires c = last_fits (end c.args.numbers.now c.loop-number.number-index (omega arith) c.loop-number.invariant) c.requires

pub returns : goal.returns
unfolding text
returns c = put_last (end c.args.numbers.now c.loop-number.number-index (omega arith) c.loop-number.invariant) c.requires c.put.ensures
