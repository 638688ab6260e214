-- `in_range` meets its contract: the records are tested in their order.
use Rattle.std.proofs.Common.{ℕ, zero, suc, ◌+◌, ◌≡◌, Bool, refl, ◌∙◌, length, drop, eq-eqb, arith, rules, tests}
use Rattle.std.specs.List.{range_with_len, list_all}
use Rattle.std.proofs.lemmas.Iterator.{YieldsList-from_range}
use Rattle.std.proofs.lemmas.Iterator.Search.{all_from_yields_List}
use lib.Seq.{drop-drop}
use Rattle.rules.specs.District.{District, district_places}
use Rattle.rules.specs.File.{numbers_in_range, records_in_range, in_range}
use Rattle.rules.specs.Format.{leader_form, slot_of, file_records}
use Rattle.grammar.specs.Places.{start_of}
use Rattle.grammar.proofs.Slots.{start_next}
use Rattle.grammar.proofs.ranges.in_range.Goals as goal

module _ (d : District) where
  abbrev fits : ℕ → Bool
  fits n = let s = slot_of leader_form n in numbers_in_range s.places d s 0 (drop (start_of n) d)

  listed : (m n : ℕ) → list_all fits (range_with_len n m) ≡ records_in_range m d n (drop (start_of n) d)
  unfolding records_in_range
  listed zero n = refl
  listed (suc m) n = rw (listed m (n + 1), start_next leader_form n, drop-drop (slot_of leader_form n).places (start_of n) d)

pub returns : goal.returns
unfolding in_range
returns c =
    let d = c.args.d.now in
    let all : length d ≡ district_places = search rules in
    rw (eq-eqb (length d) district_places all)
    (all_from_yields_List (fits d) _ _ c.all.result c.all.ensures.ran (YieldsList-from_range 0 file_records file_records refl (omega arith)) (λ x b q k. search (rules, tests))
    ∙ listed d file_records 0)
