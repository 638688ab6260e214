-- The file's records, in both forms: where each starts, that no number is wider than 4 bytes, and that each may stand where it does.
use Prim.Native.Nat.{ℕ, zero, suc, ◌+◌, ◌-◌, ◌*◌, ◌≤◌, ◌<◌}
use mathlib.Core.Path.{◌≡◌, refl, sym, ap, subst, ◌∙◌}
use mathlib.Core.Bool.{Bool, true, false}
use mathlib.Core.Logic.{⊎_elim}
use native.Mathlib.Nat.{add-zero, add-suc, mul-zero, mul-suc}
use native.Mathlib.Numerals.{add-one}
use native.Mathlib.Omega.{arith}
use lib.Dec.{ltb, eqb, lit≤}
use lib.ListN.{get_or, take}
use lib.Seq.{get_or-take}
use borrow.Author.Tests.{lt-ltb, le-ltb, ltb-true, ne_eqb, eqb-true}
use Rattle.base.proofs.Choice.{pick_all}
use Rattle.base.specs.Choice.{pick}
use Rattle.rules.specs.District.{District, most_strategies, most_distresses, most_pavements, most_segments, most_resources, count_places, greatest_place, strategies_at, per_strategy, pavements_at, per_pavement, segments_at, per_segment, district_places, ratings_at, leader_at, greatest_of}
use Rattle.rules.specs.Format.{plain_form, leader_form, number, absent, slot, slot_of, first_strategy_record, first_pavement_record, first_segment_record, last_record, file_records, most_places, present, kind_field, field_at, Slot}
use Rattle.rules.specs.declared.Field.{Field}
use Rattle.grammar.specs.Places.{Form, start_of, Ready}

-- what holds of both forms holds of each
pub form_all : (P : ℕ → Type 0) → P plain_form → P leader_form → (form : ℕ) → Form form → P form
form_all P a b form = ⊎_elim (λ e. subst P (sym e) a) (λ e. subst P (sym e) b)

-- what holds of a record of each kind holds of every record
pub slot_all : (P : Slot → Type 0) (form : ℕ) → P (slot form form count_places 0) → P (slot form 2 most_resources 0) → P (slot form 3 most_distresses 0) → ((n : ℕ) → P (slot form 4 per_strategy n)) → ((n : ℕ) → P (slot form 5 per_pavement n)) → ((n : ℕ) → P (slot form 6 per_segment n)) → P (slot form 7 0 0) → (n : ℕ) → P (slot_of form n)
slot_all P form a b c d e f g n =
    pick_all P (eqb n 0) _ _ a
    (pick_all P (eqb n 1) _ _ b
    (pick_all P (eqb n 2) _ _ c
    (pick_all P (ltb n first_pavement_record) _ _ (d (n - first_strategy_record))
    (pick_all P (ltb n first_segment_record) _ _ (e (n - first_pavement_record))
    (pick_all P (ltb n last_record) _ _ (f (n - first_segment_record)) g)))))

-- ---- the records of kinds 4, 5 and 6

-- behind the third record
behind : (form n : ℕ) → 3 ≤ n → slot_of form n ≡ pick (ltb n first_pavement_record) (slot form 4 per_strategy (n - first_strategy_record)) (pick (ltb n first_segment_record) (slot form 5 per_pavement (n - first_pavement_record)) (pick (ltb n last_record) (slot form 6 per_segment (n - first_segment_record)) (slot form 7 0 0)))
behind form n h = rw (ne_eqb n 0 (λ q. omega arith), ne_eqb n 1 (λ q. omega arith), ne_eqb n 2 (λ q. omega arith))

pub slot_strategy : (form j : ℕ) → j < most_strategies → slot_of form (first_strategy_record + j) ≡ slot form 4 per_strategy j
slot_strategy form j h =
    let n = first_strategy_record + j in
    let e : n - first_strategy_record ≡ j = omega arith in
    behind form n (omega arith) ∙ rw (lt-ltb n first_pavement_record (omega arith), e)

pub slot_pavement : (form y : ℕ) → y < most_pavements → slot_of form (first_pavement_record + y) ≡ slot form 5 per_pavement y
slot_pavement form y h =
    let n = first_pavement_record + y in
    let e : n - first_pavement_record ≡ y = omega arith in
    behind form n (omega arith) ∙ rw (le-ltb n first_pavement_record (omega arith), lt-ltb n first_segment_record (omega arith), e)

pub slot_segment : (form i : ℕ) → i < most_segments → slot_of form (first_segment_record + i) ≡ slot form 6 per_segment i
slot_segment form i h =
    let n = first_segment_record + i in
    let e : n - first_segment_record ≡ i = omega arith in
    behind form n (omega arith)
    ∙ rw (le-ltb n first_pavement_record (omega arith), le-ltb n first_segment_record (omega arith), lt-ltb n last_record (omega arith), e)

-- ---- where records start

pick_places : (t : Bool) (a b c d : Slot) → a.places ≡ c.places → b.places ≡ d.places → (pick t a b).places ≡ (pick t c d).places
pick_places true a b c d h k = h
pick_places false a b c d h k = k

-- both forms have the same places
pub places_same : (form n : ℕ) → (slot_of form n).places ≡ (slot_of leader_form n).places
places_same form n =
    pick_places (eqb n 0) _ _ _ _ refl
    (pick_places (eqb n 1) _ _ _ _ refl
    (pick_places (eqb n 2) _ _ _ _ refl
    (pick_places (ltb n first_pavement_record) _ _ _ _ refl
    (pick_places (ltb n first_segment_record) _ _ _ _ refl
    (pick_places (ltb n last_record) _ _ _ _ refl refl)))))

pub start_next : (form n : ℕ) → start_of (n + 1) ≡ start_of n + (slot_of form n).places
start_next form n = ap start_of (add-one n) ∙ ap (λ (p : ℕ). start_of n + p) (sym (places_same form n))

start_more : (n k : ℕ) → start_of n ≤ start_of (n + k)
start_more n zero = rw add-zero (omega arith)
start_more n (suc k) = rw add-suc (omega (arith, start_more n k))

pub start_le : (n m : ℕ) → n ≤ m → start_of n ≤ start_of m
start_le n m h =
    let e : n + (m - n) ≡ m = omega arith in
    rw e at (start_more n (m - n))

-- of records that have the same number of places
start_run : (b m p : ℕ) → ((i : ℕ) → i < m → (slot_of leader_form (b + i)).places ≡ p) → (i : ℕ) → i ≤ m → start_of (b + i) ≡ start_of b + p * i
start_run b m p e zero h = rw (add-zero, mul-zero, add-zero)
start_run b m p e (suc i) h = rw (add-suc, mul-suc) (omega (arith, e i (omega arith), start_run b m p e i (omega arith)))

pub start_strategy : (j : ℕ) → j ≤ most_strategies → start_of (first_strategy_record + j) ≡ strategies_at + per_strategy * j
start_strategy = start_run first_strategy_record most_strategies per_strategy (λ j h. ap (λ (s : Slot). s.places) (slot_strategy leader_form j h))

pub start_pavement : (y : ℕ) → y ≤ most_pavements → start_of (first_pavement_record + y) ≡ pavements_at + per_pavement * y
start_pavement = start_run first_pavement_record most_pavements per_pavement (λ y h. ap (λ (s : Slot). s.places) (slot_pavement leader_form y h))

pub start_segment : (i : ℕ) → i ≤ most_segments → start_of (first_segment_record + i) ≡ segments_at + per_segment * i
start_segment = start_run first_segment_record most_segments per_segment (λ i h. ap (λ (s : Slot). s.places) (slot_segment leader_form i h))

-- ---- no number has more than four bytes

record Small (f : Field) : Type 0 where
  small : f.width ≤ 4

-- for the ruleset: `search` does not find the property of `pick_all`
small_pick : (t : Bool) (a b : Field) → Small a → Small b → Small (pick t a b)
small_pick t a b h k = pick_all Small t a b h k

small_number : (w lo hi : ℕ) → w ≤ 4 → Small (number w lo hi)
small_number w lo hi h = record { small = h }

ruleset smalls = (tt, small_pick, small_number, lit≤)

field_small : (d : District) (s : Slot) (n : ℕ) → Small (field_at d s n)
unfolding field_at
field_small d s n = search smalls depth 20

pub width_small : (d : District) (s : Slot) (n : ℕ) → (field_at d s n).width ≤ 4
width_small d s n = (field_small d s n).small

-- ---- a record hangs on what stands before it

pub few_places : (form n : ℕ) → (slot_of form n).places ≤ most_places
few_places form = slot_all (λ (s : Slot). s.places ≤ most_places) form (omega arith) (omega arith) (omega arith) (λ n. omega arith) (λ n. omega arith) (λ n. omega arith) (omega arith)

-- districts with the same counts have the same records, and with the same greatest ratings the same fields
module _ (d e : District) (counts : (k : ℕ) → k < count_places → get_or e k 0 ≡ get_or d k 0) where
  pub present_same : (s : Slot) → present e s ≡ present d s
  present_same s = simp (counts 0 (omega arith), counts 1 (omega arith), counts 4 (omega arith))

  pub field_same : (s : Slot) (n : ℕ) → (s.kind ≡ 6 → n < leader_at → greatest_of e (n - ratings_at + 1) ≡ greatest_of d (n - ratings_at + 1)) → field_at e s n ≡ field_at d s n
  unfolding field_at
  field_same s n g = go (eqb s.kind 6) refl (ltb n leader_at) refl
    where
      go : (t : Bool) → eqb s.kind 6 ≡ t → (l : Bool) → ltb n leader_at ≡ l → pick (present e s) (kind_field e s n) absent ≡ pick (present d s) (kind_field d s n) absent
      go true q true l = simp (counts 0 (omega arith), counts 1 (omega arith), counts 2 (omega arith), counts 3 (omega arith), counts 4 (omega arith), counts 5 (omega arith), g (eqb-true s.kind 6 q) (ltb-true n leader_at l))
      go true q false l = simp (counts 0 (omega arith), counts 1 (omega arith), counts 2 (omega arith), counts 3 (omega arith), counts 4 (omega arith), counts 5 (omega arith), l)
      go false q t l = simp (counts 0 (omega arith), counts 1 (omega arith), counts 2 (omega arith), counts 3 (omega arith), counts 4 (omega arith), counts 5 (omega arith), q)

counts_take : (d : District) (p : ℕ) → count_places ≤ p → (k : ℕ) → k < count_places → get_or (take p d) k 0 ≡ get_or d k 0
counts_take d p h k l = get_or-take p d k 0 (omega arith)

-- a record behind the first, whose fields hang on the counts and, in a segment, on the greatest ratings
field_take : (form n : ℕ) (d : District) (i : ℕ) → ((slot_of form (suc n)).kind ≡ 6 → strategies_at ≤ start_of (suc n)) → field_at (take (start_of (suc n)) d) (slot_of form (suc n)) i ≡ field_at d (slot_of form (suc n)) i
unfolding greatest_of
field_take form n d i late =
    let p = start_of (suc n) in
    field_same d (take p d) (counts_take d p (start_le 1 (suc n) (omega arith))) (slot_of form (suc n)) i (λ e l. get_or-take p d (greatest_place (i - ratings_at + 1)) 0 (omega (arith, late e)))

present_take : (form n : ℕ) (d : District) → present (take (start_of (suc n)) d) (slot_of form (suc n)) ≡ present d (slot_of form (suc n))
present_take form n d = present_same d (take (start_of (suc n)) d) (counts_take d (start_of (suc n)) (start_le 1 (suc n) (omega arith))) (slot_of form (suc n))

pub record_room : (form n : ℕ) → n < file_records → start_of n + (slot_of form n).places ≤ district_places
record_room form n h = omega (arith, start_le (suc n) file_records h, places_same form n)

pub ready : (form : ℕ) → Form form → (n : ℕ) → n < file_records → Ready (slot_of form n) (start_of n)
unfolding field_at
ready form f zero h =
    record {
      room = record_room form zero h;
      few = few_places form zero;
      here = λ d. form_all (λ (g : ℕ). present (take 0 d) (slot_of g 0) ≡ present d (slot_of g 0)) refl refl form f;
      field = λ d i l. form_all (λ (g : ℕ). field_at (take 0 d) (slot_of g 0) i ≡ field_at d (slot_of g 0) i) refl refl form f;
    }
ready form f (suc n) h =
    record { room = record_room form (suc n) h; few = few_places form (suc n); here = present_take form n; field = λ d i l. field_take form n d i (late n) }
  where
    late : (n : ℕ) → (slot_of form (suc n)).kind ≡ 6 → strategies_at ≤ start_of (suc n)
    late zero e = absurd (omega arith)
    late (suc zero) e = absurd (omega arith)
    late (suc (suc n)) e = start_le first_strategy_record (suc (suc (suc n))) (omega arith)
