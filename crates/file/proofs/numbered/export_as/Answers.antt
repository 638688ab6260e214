-- `export_as` meets its contract: the file's length decides.
use lib.ListN.{length}
use native.Mathlib.Omega.{arith}
use Rattle.file.proofs.Refusals.{exported_short, exported_fits}
use Rattle.rules.specs.File.{encode_as}
use Rattle.file.proofs.numbered.export_as.Goals as goal

pub returns-then-buffer-length : goal.returns-then-buffer-length
returns-then-buffer-length c =
    let a = c.args in
    exported_short (length (encode_as a.form a.d.now)) _ (encode_as a.form a.d.now) a.buffer.now (omega (arith, c.file_length-length.ensures))

pub returns : goal.returns
returns c =
    let a = c.args in
    let n = c.file_length-length in
    let h = exported_fits (length (encode_as a.form a.d.now)) _ (encode_as a.form a.d.now) a.buffer.now (omega (arith, n.ensures)) in
    rw (n.ensures, c.write_file.ensures) h
