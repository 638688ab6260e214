-- `record_in_range` meets its contract: the numbers are tested in their order.
use Rattle.std.proofs.Common.{ℕ, inr, zero, suc, ◌+◌, ◌<◌, ◌≤◌, ◌≡◌, Bool, List, [], ◌∷◌, refl, sym, ap, ◌∙◌, length, take, drop, length-drop, arith, rules, tests}
use Rattle.std.specs.Iterator.Adapters.{enumerate_source}
use Rattle.std.specs.List.{enumerate_from, list_all}
use Rattle.std.proofs.lemmas.Iterator.{YieldsList-from_slice}
use Rattle.std.proofs.lemmas.Iterator.Consumers.{YieldsList-from_enumerate}
use Rattle.std.proofs.lemmas.Iterator.Search.{all_from_yields_List}
use Rattle.rules.specs.District.{District, district_places}
use Rattle.rules.specs.File.{numbers_in_range}
use Rattle.rules.specs.Format.{leader_form, slot_of, file_records, inside, field_at, Slot}
use Rattle.grammar.specs.Places.{start_of, Ready}
use Rattle.grammar.specs.Slots.{slot_in}
use Rattle.grammar.proofs.Slots.{ready}
use Rattle.grammar.proofs.ranges.record_in_range.Goals as goal

-- the slot and the place that are found are the n-th record's
stands : (n : ℕ) → n < file_records → (s : Slot) (place : ℕ) → s ≡ slot_of leader_form n → place ≡ start_of n → Ready s place
stands n h s place is at = rw (is, at) (ready leader_form (inr refl) n h)

module _ (d : District) (s : Slot) where
  abbrev fits : ℕ × ℕ → Bool
  fits p = inside (field_at d s p.0) p.1

  listed : (m n : ℕ) (vs : List ℕ) → m ≤ length vs → list_all fits (enumerate_from n (take m vs)) ≡ numbers_in_range m d s n vs
  unfolding numbers_in_range
  listed zero n vs h = refl
  listed (suc m) n [] h = absurd (omega arith)
  listed (suc m) n (x ∷ vs) h = rw (listed m (n + 1) vs (omega arith))

pub slice_bounds-iter-end : goal.slice_bounds-iter-end
slice_bounds-iter-end c = search (rules, arith, (stands _ c.requires _ _ c.slot_at-s.ensures c.start_of-place.ensures).room)

pub offset_bounds-d-place : goal.offset_bounds-d-place
offset_bounds-d-place c = search (rules, arith, (stands _ c.requires _ _ c.slot_at-s.ensures c.start_of-place.ensures).room)

pub overflow_add-place : goal.overflow_add-place
overflow_add-place c = search (rules, arith, (stands _ c.requires _ _ c.slot_at-s.ensures c.start_of-place.ensures).room)

pub all-requires-clause-finite : goal.all-requires-clause-finite
all-requires-clause-finite c = tt

pub returns : goal.returns
returns c =
    let d = c.args.d.now in
    let s = slot_in c.slot_at-s.result in
    let place = c.start_of-place.result in
    let all : length d ≡ district_places = search rules in
    let room : s.places ≤ length (drop place d) = simp length-drop (omega (arith, (stands _ c.requires _ _ c.slot_at-s.ensures c.start_of-place.ensures).room)) in
    rw (sym c.slot_at-s.ensures, sym c.start_of-place.ensures)
    (all_from_yields_List (fits d s) _ _ c.all.result c.all.ensures.ran (YieldsList-from_enumerate (YieldsList-from_slice {s = enumerate_source c.enumerate.result} (take s.places (drop place d)) (rw c.enumerate.ensures.source (c.iter.ensures.rest ∙ ap (λ m. take m (drop place d)) (omega arith)))) c.enumerate.ensures.count) (λ x b q k. search (rules, tests))
    ∙ listed d s s.places 0 (drop place d) room)
