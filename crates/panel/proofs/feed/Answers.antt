-- `panel::feed` meets its contract: what the bytes ahead lead to from here, all the bytes lead to from the start.
use native.Mathlib.Omega.{arith}
use Prim.Native.Nat.{◌<◌}
use Prim.Native.Nat.{ℕ}
use mathlib.Core.List.{List}
use mathlib.Core.Path.{◌≡◌, subst}
use lib.ListN.{length, get_or}
use Rattle.panel.specs.Console.{LineLeads}
use Rattle.panel.specs.Lines.{keeping}
use Rattle.panel.proofs.Feeds.{fed_all, fed_line, fed_byte}
use Rattle.panel.proofs.feed.Goals as goal
use Rattle.panel.proofs.feed.Goals.{then-byte-eq-LINE_FEED, else-byte-eq-LINE_FEED}

pub loop-byte-init : goal.loop-byte-init
loop-byte-init g c = (c.requires, λ s k. record { state = s; keeps = k; is = λ u last f. f })

pub answer-requires : goal.answer-requires
answer-requires g c = (c.as_slice.ensures.fits, c.loop-byte.invariant.0)

pub loop-byte-preserved : goal.loop-byte-preserved
loop-byte-preserved g c =
    let l = c.loop-byte in
    let j = c.if-byte-eq-LINE_FEED in
    let bytes = c.args.bytes.now in
    let more : l.byte-index < length bytes = omega arith in
    elim j.branch [
      | then-byte-eq-LINE_FEED w ↦
          let a = w.answer.ensures in (
            rw w.c-is a.reached,
            λ s k.
                let q = l.invariant.1 s k in
                let p = a.led q.state q.keeps in
                let leads = subst (λ (line : List ℕ). LineLeads q.state line p.state p.is.bytes) w.as_slice.ensures.value p.is.leads in
                record { state = p.state; keeps = rw w.c-is p.keeps; is = λ u last f. q.is u last (fed_line bytes l.byte-index more w.if-byte-eq-LINE_FEED.true leads (rw w.line-is w.clear.ensures) f) },
          )
      | else-byte-eq-LINE_FEED w ↦
          let front : j.line.items ≡ keeping l.line.items (get_or bytes l.byte-index 0) = rw w.line-is w.keep.ensures in (
            rw w.c-is l.invariant.0,
            λ s k.
                let q = l.invariant.1 s k in
                record { state = q.state; keeps = rw w.c-is q.keeps; is = λ u last f. q.is u last (fed_byte bytes l.byte-index more w.if-byte-eq-LINE_FEED.false front f) },
          )
    ]

pub returns : goal.returns
returns g c =
    let l = c.loop-byte in
    record {
      fed = λ s k. let q = l.invariant.1 s k in record { state = q.state; keeps = q.keeps; is = q.is _ _ (fed_all _ l.byte-index (omega arith)) };
      reached = l.invariant.0;
    }
