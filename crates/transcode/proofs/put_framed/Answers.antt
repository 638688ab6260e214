-- `transcode::put_framed` meets its contract.
use Prim.Native.Nat.{◌≤◌}
use mathlib.Core.List.{◌++◌}
use native.Mathlib.Omega.{arith}
use lib.ListN.{length}
use Rattle.base.proofs.Buffers.{Written}
use Rattle.base.proofs.Text.{put_front, put_last}
use Rattle.transcode.specs.Transcoded.{head_of, framed}
use Rattle.transcode.proofs.Framed.{framed_length}
use Rattle.transcode.proofs.put_framed.Goals as goal

pub returns : goal.returns
unfolding framed
returns c =
    let file = c.args.file.now in
    let head = c.head-head in
    let room : length (head_of (length file) ++ file) ≤ length c.args.out.now = omega (arith, framed_length file, c.requires) in
    let first : Written c.args.out.now (head_of (length file) ++ file) file c.put-at.result c.put-at.new.out = put_front (head_of (length file)) file (rw (← head.ensures) c.put-at.ensures) (omega (arith, c.requires)) in
    put_last first room c.put.ensures
