-- `rating::Ranged::usage_in` meets its contract.
use mathlib.Core.Path.{◌≡◌, sym, ◌∙◌, ap₂}
use mathlib.Core.Bool.{true}
use Prim.Native.Nat.{ℕ, ◌*◌}
use native.Mathlib.Omega.{arith}
use Rattle.base.proofs.Integers.{product_fits}
use Rattle.rules.specs.District.{requirement_of}
use Rattle.rules.specs.Table.{has}
use Rattle.rating.specs.Areas.{area_in}
use Rattle.rating.specs.Numbers.{Strategy}
use Rattle.rating.proofs.Bounds.{area_le}
use Rattle.rating.proofs.Entries.{usage_none, usage_past, usage_some, treated, has_in, area_in_le}
use Rattle.rating.proofs.Ranged.usage_in.Goals as goal
use Rattle.rating.proofs.Ranged.usage_in.Goals.{Else-a-eq0, then-a-eq0-via-then-a-eq0, then-a-eq0-via-else-a-eq0+then-self-r}

-- a segment with some area to treat is the district's, and so is the strategy
there : (c : Else-a-eq0) (i : ℕ) → let a = c.args in a.a ≡ area_in a.self.now.district.now i a.j → has a.self.now.district.now i a.j ≡ true
there c i e = let a = c.args in treated _ i _ a.r (λ z. c.if-a-eq0.false (e ∙ z))

strategy : (c : Else-a-eq0) → Strategy c.args.j
strategy c =
    let a = c.args in
    let t = c.requires.1 in
    let h = (has_in a.self.now.district.now t.segment a.j (there c t.segment t.treated)).1 in
    let n = a.self.now.in_range.strategies in
    (h.0, omega arith)

pub returns-then-a-eq0 : goal.returns-then-a-eq0
returns-then-a-eq0 c i e =
    elim c.then-a-eq0.branch [
      | then-a-eq0-via-then-a-eq0 w ↦ usage_none _ i _ _ (sym e ∙ w.if-a-eq0.true)
      | then-a-eq0-via-else-a-eq0+then-self-r w ↦ usage_past _ i _ _ w.if-self-r.true
    ]

pub strategy_at-requires : goal.strategy_at-requires
strategy_at-requires c = (strategy (goal.at.strategy_at-requires c).Else-a-eq0, omega (arith, c.requires.0))

pub overflow_mul-result : goal.overflow_mul-result
unfolding requirement_of
overflow_mul-result c =
    let ok = c.args.self.now.in_range in
    let p = c.requires in
    let j = strategy (goal.at.overflow_mul-result c).Else-a-eq0 in
    product_fits _ _ 1_999_800 999_999 (rw p.1.treated (area_in_le _ _ _ (area_le _ ok _ p.1.there))) (rw c.strategy_at.ensures (ok.requirement _ _ j.0 j.1 p.0.0 p.0.1)) tt

pub returns : goal.returns
unfolding requirement_of
returns c i e = ap₂ ◌*◌ e c.strategy_at.ensures ∙ usage_some _ i _ _ (there (goal.at.returns c).Else-a-eq0 i e) c.requires.0.0 c.if-self-r.false
