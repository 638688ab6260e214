-- `phase1::last_led` meets its contract: past the last that has a leader none has.
use Rattle.std.proofs.Common.{rules, ℕ, ◌≡◌, ◌≤◌, ◌<◌, ◌+◌, arith, length, refl, Option, None, Some}
use lib.ListN.{take, length-take, get_or}
use lib.Seq.{get_or-take}
use Rattle.phase1.specs.Reduce.{LedWithin}
use Rattle.phase1.proofs.Pruning.{led_past}
use Rattle.phase1.proofs.last_led.Goals as goal

pub returns : goal.returns
returns c = go c.rposition.result refl
  where
    go : (o : Option ℕ) → c.rposition.result ≡ o → LedWithin c.args.leaders.entries.now c.args.segments c.map_or.result
    go (Some i) e =
        let n = c.args.segments in
        let ls = c.args.leaders.entries.now in
        let long : length (take n ls) ≡ n = omega (arith, length-take n ls) in
        let inside : i < length (take n ls) = search rules in
        let past : (k : ℕ) → i < k → k < length (take n ls) → get_or (take n ls) k 0 ≤ 0 = search rules in
        let last : c.map_or.result ≡ i + 1 = search rules in
        led_past _ n c.map_or.result (omega arith) (λ k low high. omega (arith, past k (omega arith) (omega arith), get_or-take n ls k 0 high))
    go None e =
        let n = c.args.segments in
        let ls = c.args.leaders.entries.now in
        let long : length (take n ls) ≡ n = omega (arith, length-take n ls) in
        let none : (k : ℕ) → k < length (take n ls) → get_or (take n ls) k 0 ≤ 0 = search rules in
        let zero : c.map_or.result ≡ 0 = search rules in
        led_past _ n c.map_or.result (omega arith) (λ k low high. omega (arith, none k (omega arith), get_or-take n ls k 0 high))
