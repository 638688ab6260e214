-- `listing::put_listing` meets its contract: as many lines as the district has segments, and the results behind them.
use Rattle.std.proofs.Common.{ℕ, ◌≡◌, ◌-◌, ◌≤◌, List, ◌++◌, length, take, min, ap, sym, arith}
use Rattle.std.proofs.lemmas.List.{get_or-take}
use lib.Seq.{length-take-le}
use Rattle.rules.specs.District.{most_segments}
use Rattle.rules.specs.declared.Programme.{Programme}
use Rattle.listing.specs.Listing.{segment_line, strategy_line, segment_lines, results, listing, longest_listing}
use Rattle.listing.proofs.Lengths.{listing_few}
use Rattle.listing.proofs.Lines.{lines_alike}
use Rattle.listing.proofs.Pieces.{second_fits, put_two}
use Rattle.base.proofs.Text.{front_fits}
use Rattle.listing.proofs.put_listing.Goals as goal

-- the lines of the first k
abbrev lines : List ℕ → ℕ → List ℕ
lines s k = segment_lines (length (take k s)) 1 (take k s)

lines_of : (s : List ℕ) (k : ℕ) → k ≤ length s → segment_lines k 1 s ≡ lines s k
lines_of s k h =
    rw (length-take-le k s h)
    (lines_alike k 1 (strategy_line s) (strategy_line (take k s)) (λ j l u. ap (segment_line j) (sym (get_or-take k s (j - 1) 0 (omega arith)))))

module _ (p : Programme) (n k : ℕ) (e : k ≡ min n most_segments) (h : k ≤ length p.strategies) where
  listed : listing p n ≡ lines p.strategies k ++ results p
  unfolding listing
  listed = rw (← e) (ap (λ l. l ++ results p) (lines_of p.strategies k h))

  fits : (room : ℕ) → longest_listing ≤ room → length (lines p.strategies k ++ results p) ≤ room
  fits room r = omega (arith, listing_few p n, ap length listed)

pub put_segment_lines-at-requires : goal.put_segment_lines-at-requires
put_segment_lines-at-requires c =
    let p = c.args.p.now in
    front_fits (lines p.strategies c.min.result) (results p) (fits p c.args.n _ c.min.ensures (omega arith) _ c.requires)

pub put_results-requires : goal.put_results-requires
put_results-requires c =
    let p = c.args.p.now in
    second_fits (lines p.strategies c.min.result) (results p) (fits p c.args.n _ c.min.ensures (omega arith) _ c.requires) c.put_segment_lines-at.ensures

pub returns : goal.returns
returns c =
    let p = c.args.p.now in
    rw (listed p c.args.n c.min.result c.min.ensures (omega arith))
    (put_two (lines p.strategies c.min.result) (results p) (fits p c.args.n _ c.min.ensures (omega arith) _ c.requires) c.put_segment_lines-at.ensures c.put_results.ensures)
