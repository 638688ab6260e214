-- `listing::put_number` meets its contract.
use Rattle.std.proofs.Common.{ℕ, ◌+◌, ◌/◌, ◌%◌, ◌^◌, ◌≤◌, ◌<◌, [], ◌∷◌, length, ap, ◌∙◌, arith, length-append}
use Rattle.base.specs.Text.{decimal}
use Rattle.base.proofs.Buffers.{written_none, written_one}
use Rattle.base.proofs.Digits.{put_writes}
use Rattle.base.proofs.Text.{decimal_small, decimal_large, put_front, put_all}
use Rattle.listing.proofs.+put_number.Goals as goal

-- the digits of the tenth and one more, and their number
longer : (v room : ℕ) → 10 ≤ v → v < 2 ^ 64 → length (decimal v) ≤ room → length (decimal (v / 10)) + 1 ≤ room
longer v room h l f = omega (arith, f, ap length (decimal_large v h l) ∙ length-append (decimal (v / 10)) ((48 + v % 10) ∷ []))

pub bounds-out-0 : goal.bounds-out-0
bounds-out-0 t c = omega (arith, ap length (decimal_small c.args.value (omega arith)))

pub returns-then-value-lt10-clause-put : goal.returns-then-value-lt10-clause-put
returns-then-value-lt10-clause-put t c =
    let a = c.args in
    rw (decimal_small a.value (omega arith)) (put_all (written_one (48 + a.value) [] (written_none a.out.now ((48 + a.value) ∷ [])) (bounds-out-0 t c)))

-- they read back
pub returns-then-value-lt10-clause-writes : goal.returns-then-value-lt10-clause-writes
returns-then-value-lt10-clause-writes t c = put_writes (omega arith) (returns-then-value-lt10-clause-put t c)

pub put_number-at-requires : goal.put_number-at-requires
put_number-at-requires t c = (omega arith, omega (arith, longer c.args.value _ (omega arith) (omega arith) c.requires))

pub bounds-out-at : goal.bounds-out-at
bounds-out-at t c =
    let p = c.put_number-at in
    omega (arith, longer c.args.value _ (omega arith) (omega arith) c.requires, p.ensures.put.count, p.auto.out)

pub returns-clause-put : goal.returns-clause-put
returns-clause-put t c =
    let a = c.args in
    let room = longer a.value _ (omega arith) (omega arith) c.requires in
    rw (decimal_large a.value (omega arith) (omega arith))
    (put_all (written_one (48 + a.value % 10) [] (put_front (decimal (a.value / 10)) ((48 + a.value % 10) ∷ []) c.put_number-at.ensures.put (omega (arith, room))) (bounds-out-at t c)))

pub returns-clause-writes : goal.returns-clause-writes
returns-clause-writes t c = put_writes (omega arith) (returns-clause-put t c)
