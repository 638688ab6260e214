-- `put` meets its contract: what is written so far, and what is still to come, is the whole.
use Prim.Native.Nat.{suc, ◌+◌, ◌-◌, ◌/◌, ◌%◌}
use mathlib.Core.Path.{◌≡◌}
use native.Mathlib.Omega.{arith}
use Rattle.std.proofs.Common.{length-take-le}
use Rattle.base.proofs.Buffers.{written_one}
use Rattle.base.specs.Bytes.{bytes_of}
use Rattle.file.proofs.bytes.put.Goals as goal

pub loop-byte-preserved : goal.loop-byte-preserved
loop-byte-preserved c =
    let l = c.loop-byte in
    let w = c.args.width in
    let s : w - l.byte-index ≡ suc (w - (l.byte-index + 1)) = omega (arith, length-take-le w c.args.out.now c.requires) in
    written_one (l.rest % 256) (bytes_of (w - (l.byte-index + 1)) (l.rest / 256)) (rw s at l.invariant) (omega arith)
