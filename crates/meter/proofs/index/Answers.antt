-- `meter::index` meets its contract.
use Rattle.std.proofs.Common.{sym, ◌∙◌}
use Rattle.meter.proofs.Readings.{reading_kept}
use Rattle.meter.proofs.Windows.{taken_follows, refused_follows, index_refusal}
use Rattle.meter.proofs.index.Goals as goal

pub returns-then-not-is_reading : goal.returns-then-not-is_reading
returns-then-not-is_reading c = λ bits e. refused_follows _ bits (sym (c.is_reading.ensures bits e) ∙ c.if-not-is_reading.true)

pub returns : goal.returns
returns c =
    let x = c.args.x in
    λ bits e.
    let t = sym (c.is_reading.ensures bits e) ∙ c.if-not-is_reading.false in
    let k = reading_kept x bits e t in
    taken_follows _ _ bits (index_refusal bits t) (λ h H. c.put.ensures h bits H (rw c.plain.ensures k.0) k.1)
