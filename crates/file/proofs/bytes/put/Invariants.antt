use Prim.Native.Nat.{◌-◌}
use Rattle.base.proofs.Buffers.{Written}
use Rattle.base.specs.Bytes.{bytes_of}
use Rattle.file.proofs.bytes.put.Given as goal

abbrev pub invariant-loop-byte : goal.invariant-loop-byte
invariant-loop-byte l = Written l.initial.byte-items (bytes_of l.width l.value) (bytes_of (l.width - l.byte-index) l.rest) l.byte-index l.byte-items
