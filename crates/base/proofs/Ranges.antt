-- The sum of a chain `(0..n).map(f).sum()`, whatever its closure is, so long as it gives f and stays.
use Prim.Native.Nat.{ℕ, ◌+◌, ◌-◌, ◌<◌}
use mathlib.Core.Path.{◌≡◌, refl, sym, subst, ◌∙◌}
use mathlib.Core.List.{List, map}
use native.Mathlib.Omega.{arith}
use denote.Param.Members.{Mut, Called}
use Rattle.std.specs.Prelude.{Option}
use Rattle.std.specs.declared.ops.Range.{Range}
use Rattle.std.specs.declared.iter.Map.{Map}
use Rattle.std.specs.Iterator.{Drains}
use Rattle.std.specs.Iterator.Adapters.{map_source, map_callee}
use Rattle.std.specs.Iterator.Runs.{EachRunFrom}
use Rattle.std.specs.List.{fold, sum, range_with_len}
use Rattle.std.specs.Option.{MatchOption}
use Rattle.std.proofs.lemmas.Iterator.{YieldsList, YieldsList-from_range, YieldsList-from_map, maps}
use Rattle.std.proofs.lemmas.Iterator.Consumers.{YieldsList-at, sum_from_yields_List, fits_from_yields_list}

abbrev range_steps : Range ℕ → Option ℕ → Range ℕ → Type 0
range_steps s r t = (t.end ≡ s.end) × MatchOption r ((s.end - s.start ≡ 0) × (t.start ≡ s.start)) (λ x. (0 < s.end - s.start) × (x ≡ s.start) × (t.start ≡ s.start + 1))

module _ {F : Type 0} {g : Mut F (ℕ × Unit {0}) ℕ} (s : Map (Range ℕ) F) (f : ℕ → ℕ) (n : ℕ) {closure : F} {total : ℕ} (listed : sum (map f (range_with_len 0 n)) ≡ total)
    (source : map_source s ≡ record { start = 0; end = n }) (callee : map_callee s ≡ closure) (gives : (k r : ℕ) (q : F) → Called g closure (k, tt) r q → (q ≡ closure) × (r ≡ f k)) where
  road : YieldsList (maps range_steps g) (λ r. r) s (map f (range_with_len 0 n))
  road = YieldsList-from_map g f (YieldsList-at source (YieldsList-from_range 0 n n refl (omega arith))) callee gives

  pub range_fits : (top : ℕ) → total < top → EachRunFrom (maps range_steps g) s (λ p. fold (λ a x. a + x) 0 p.items < top)
  range_fits top l = fits_from_yields_list s top road (subst (λ t. t < top) (sym listed) l)

  pub range_total : (r : ℕ) → ((xs : List ℕ) × (Unit {0} → Drains (maps range_steps g) s xs) × (r ≡ fold (λ a x. a + x) 0 xs)) → r ≡ total
  range_total r ran = sum_from_yields_List s r ran road ∙ listed
