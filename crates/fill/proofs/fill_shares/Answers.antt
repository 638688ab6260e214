-- `fill::fill_shares` meets its contract.
use mathlib.Core.Path.{◌≡◌, ◌∙◌, ap}
use mathlib.Core.List.{List}
use Prim.Native.Nat.{ℕ, ◌*◌, ◌≤◌, ◌<◌}
use native.Mathlib.Omega.{arith}
use lib.ListN.{length, take, length-take}
use Rattle.std.proofs.Common.{rules}
use Rattle.std.proofs.iter.Serving.{serving}
use Rattle.base.specs.Over.{listed_from}
use Rattle.rules.specs.District.{most_segments, most_resources}
use Rattle.tables.specs.Arrays.{columns, use_entries}
use Rattle.fill.specs.Lists.{share_entry}
use Rattle.fill.proofs.Shares.{shares_filled}
use Rattle.fill.proofs.fill_shares.Goals as goal

module _ (segments : ℕ) (few : segments ≤ most_segments) where
  within : (table : List ℕ) (n : ℕ) → n < length (take (most_resources * (columns * segments)) table) → n < use_entries
  within table n h = omega (arith, length-take (most_resources * (columns * segments)) table)

pub fill_each-requires : goal.fill_each-requires
fill_each-requires g c = λ n h.
    let low : n < use_entries = within c.args.t.size.segments c.args.t.bounded.segments _ n h in
    grind (serving, low)

pub returns : goal.returns
returns g c q none post =
    let t = c.args.t in
    let entry = share_entry q t.uses.entries.now t.limits.entries.now in
    let end = most_resources * (columns * t.size.segments) in
    let few : end ≤ use_entries = omega (arith, t.bounded.segments) in
    let part : length (take end c.args.shares.now) ≡ end = length-take end c.args.shares.now ∙ omega arith in
    shares_filled q _ _ _ _ t.bounded t.uses.held (c.fill_each.ensures entry (λ n x h e. search rules) ∙ ap (λ k. listed_from k 0 entry) part)
