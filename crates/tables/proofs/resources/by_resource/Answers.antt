-- `tables::resources::by_resource` meets its contract: the loop makes the first numbers, and behind them is 0.
use Prim.Native.Nat.{ℕ, zero, suc, ◌+◌, ◌-◌, ◌≤◌, ◌<◌}
use mathlib.Core.Path.{◌≡◌, refl, ◌∙◌}
use mathlib.Core.List.{List, ◌++◌}
use native.Mathlib.Omega.{arith}
use borrow.Author.Count.{below_more}
use lib.ListN.{get_or, length, drop, replicate, get_or-append}
use lib.Seq.{get_or-set_same, get_or-set_other, get_or-append_right, get_or-drop, length-take-le}
use Rattle.rules.specs.District.{most_resources}
use Rattle.tables.proofs.resources.by_resource.Goals as goal

nothing : (m i : ℕ) → get_or {A = ℕ} (replicate m 0) i 0 ≡ 0
nothing zero i = refl
nothing (suc m) zero = refl
nothing (suc m) (suc i) = nothing m i

module _ (n : ℕ) (xs : List ℕ) where
  made : (P : ℕ → ℕ → Type 0) → n ≤ length xs → ((j : ℕ) → j < n → P (j + 1) (get_or xs j 0))
      → (r : ℕ) → 1 ≤ r → r ≤ n → P r (get_or (xs ++ drop n (replicate most_resources 0)) (r - 1) 0)
  made P long all r low high =
      let back : r - 1 + 1 ≡ r = omega arith in
      rw (get_or-append xs (drop n (replicate most_resources 0)) 0 (r - 1) (omega arith)) (rw back at (all (r - 1) (omega arith)))

  behind : length xs ≡ n → (r : ℕ) → n < r → get_or (xs ++ drop n (replicate most_resources 0)) (r - 1) 0 ≡ 0
  behind long r low =
      get_or-append_right xs (drop n (replicate most_resources 0)) (r - 1) 0 (omega arith)
      ∙ get_or-drop n (replicate most_resources 0) (r - 1 - length xs) 0
      ∙ nothing most_resources (n + (r - 1 - length xs))

pub loop-k-preserved : goal.loop-k-preserved
loop-k-preserved g c =
    let l = c.loop-k in
    below_more _ _ (λ j lj. rw (get_or-set_other l.place-items l.k j c.number.result 0 (λ e. omega arith)) (l.invariant j lj))
    (rw (get_or-set_same l.place-items l.k c.number.result 0 (omega (arith, l.auto.place-items, c.loop-k-test.true))) c.number.ensures)

pub returns-clause-each : goal.returns-clause-each
returns-clause-each g c =
    let long : length c.loop-k.place-items ≡ c.args.resources = c.loop-k.auto.place-items ∙ length-take-le _ _ c.requires.few in
    made c.args.resources c.loop-k.place-items (goal.F-post g c.args.number) (omega (arith, long)) (λ j l. c.loop-k.invariant j (omega (arith, long, c.loop-k.auto.place-items, c.loop-k-test.false)))

pub returns-clause-rest : goal.returns-clause-rest
returns-clause-rest g c =
    let long : length c.loop-k.place-items ≡ c.args.resources = c.loop-k.auto.place-items ∙ length-take-le _ _ c.requires.few in
    λ r low high. behind c.args.resources c.loop-k.place-items long r low
