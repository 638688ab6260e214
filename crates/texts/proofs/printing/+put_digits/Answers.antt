-- `printing::put_digits` meets its contract.
use Rattle.std.proofs.Common.{ℕ, ◌≡◌, ◌+◌, ◌-◌, ◌/◌, ◌%◌, ◌≤◌, [], ◌∷◌, length, ap, ◌∙◌, arith, length-append}
use Rattle.base.specs.Text.{digits_of}
use Rattle.base.proofs.Buffers.{written_none, written_one}
use Rattle.base.proofs.Text.{put_front, put_all}
use Rattle.texts.proofs.Printed.{digits_one, digits_tenth}
use Rattle.texts.proofs.printing.+put_digits.Goals as goal

-- the digits of the tenth and one more
longer : (k v room : ℕ) → 1 ≤ k → 10 ≤ v → length (digits_of k v) ≤ room → length (digits_of (k - 1) (v / 10)) + 1 ≤ room
longer k v room p h f = omega (arith, f, ap length (digits_tenth k v p h) ∙ length-append (digits_of (k - 1) (v / 10)) ((48 + v % 10) ∷ []))

pub returns-then-k-eq0 : goal.returns-then-k-eq0
unfolding digits_of
returns-then-k-eq0 t c =
    let none : c.args.k ≡ 0 = omega arith in
    rw none (put_all (written_none c.args.out.now []))

pub bounds-out-0 : goal.bounds-out-0
bounds-out-0 t c = omega (arith, c.requires, ap length (digits_one c.args.k c.args.value (omega arith) (omega arith)))

pub returns-then-value-lt10 : goal.returns-then-value-lt10
returns-then-value-lt10 t c =
    let a = c.args in
    rw (digits_one a.k a.value (omega arith) (omega arith)) (put_all (written_one (48 + a.value) [] (written_none a.out.now ((48 + a.value) ∷ [])) (bounds-out-0 t c)))

pub put_digits-at-requires : goal.put_digits-at-requires
put_digits-at-requires t c = (omega arith, omega (arith, longer c.args.k c.args.value _ (omega arith) (omega arith) c.requires))

pub bounds-out-at : goal.bounds-out-at
bounds-out-at t c =
    let p = c.put_digits-at in
    omega (arith, longer c.args.k c.args.value _ (omega arith) (omega arith) c.requires, p.ensures.count, p.auto.out)

pub returns : goal.returns
returns t c =
    let a = c.args in
    let room = longer a.k a.value _ (omega arith) (omega arith) c.requires in
    rw (digits_tenth a.k a.value (omega arith) (omega arith))
    (put_all (written_one (48 + a.value % 10) [] (put_front (digits_of (a.k - 1) (a.value / 10)) ((48 + a.value % 10) ∷ []) c.put_digits-at.ensures (omega (arith, room))) (bounds-out-at t c)))
