use Prim.Native.Nat.{◌-◌}
use Rattle.base.proofs.Buffers.{Written}
use Rattle.rules.specs.File.{records_bytes, encode_as}
use Rattle.rules.specs.Format.{file_records}
use Rattle.grammar.specs.Places.{start_of}
use Rattle.file.proofs.numbered.write_file.Given as goal

abbrev pub invariant-loop-n : goal.invariant-loop-n
invariant-loop-n l = Written l.initial.out (encode_as l.form l.d) (records_bytes l.form (file_records - l.n) l.d l.n (start_of l.n)) l.at l.out
