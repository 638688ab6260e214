-- Which form a file has, and which a district's.
use Prim.Native.Nat.{ℕ, ◌+◌, ◌-◌, ◌*◌, ◌≤◌, ◌<◌, min}
use mathlib.Core.Path.{◌≡◌, refl, sym, ap, ◌∙◌}
use mathlib.Core.Bool.{Bool, true, false, ◌&&◌}
use mathlib.Core.List.{List, []}
use mathlib.Core.Logic.{inl, inr}
use native.Mathlib.Omega.{arith}
use lib.Dec.{eqb, leb, ltb}
use lib.ListN.{length, get_or-eq_default}
use borrow.Author.Tests.{leb-true, leb-false, ltb-true, eq-eqb, ne_eqb}
use Rattle.base.proofs.All.{all_fails, all_true}
use Rattle.base.proofs.Choice.{picks, pick_all}
use Rattle.base.specs.Choice.{pick}
use Rattle.rules.specs.Answers.{cut_short}
use Rattle.rules.specs.District.{District, most_segments, district_places, leader_at, per_segment, segments_at, leader_place, value_at, segments_of, leader_of}
use Rattle.rules.specs.File.{refused, kind_in, read_record, decode_as, form_in, decode, records_bytes, encode_as, leaderless, form_of, encode}
use Rattle.rules.specs.Format.{plain_form, leader_form, present, slot_of, file_records}
use Rattle.grammar.specs.Places.{Form, Suits}
use Rattle.grammar.proofs.Slots.{form_all}
use Rattle.file.proofs.Steps.{records_refused}

pub form_in_lem : (file : List ℕ) → Form (form_in file)
form_in_lem file = pick_all Form (eqb (kind_in file) leader_form) leader_form plain_form (inr refl) (inl refl)

pub form_of_lem : (d : District) → Form (form_of d)
unfolding form_of
form_of_lem d = pick_all Form (leaderless d) plain_form leader_form (inl refl) (inr refl)

-- a district's own form has room for its leaders
pub suits_own : (d : District) → Suits (form_of d) d
unfolding form_of
suits_own d = go (leaderless d) refl
  where
    go : (t : Bool) → leaderless d ≡ t → Suits (pick t plain_form leader_form) d
    go true e q = e
    go false e q = absurd (omega arith)

-- a form that has room for a district's leaders is its own, but for the form with leaders where none is set;
pub form_kept : (form : ℕ) → Form form → (d : District) → Suits form d → (eqb form leader_form && leaderless d) ≡ false → form_of d ≡ form
unfolding form_of
form_kept form f d =
    form_all (λ (g : ℕ). Suits g d → (eqb g leader_form && leaderless d) ≡ false → form_of d ≡ g) (λ s e. rw (s refl)) (λ s e. rw e) form f

-- there the plain form is
pub encode_plain : (d : District) → leaderless d ≡ true → encode d ≡ encode_as plain_form d
unfolding encode form_of
encode_plain d e = rw e

-- the first kind of a district's file names its form
pub form_encoded : (form : ℕ) → Form form → (d : District) → form_in (encode_as form d) ≡ form
unfolding encode_as records_bytes
form_encoded form f d = form_all (λ (g : ℕ). form_in (encode_as g d) ≡ g) refl refl form f

-- a file that ends within its first four bytes
pub short_as : (form : ℕ) → Form form → (file : List ℕ) → length file < 4 → decode_as form file ≡ refused cut_short
unfolding decode_as read_record
short_as form f file h =
    let there = form_all (λ (g : ℕ). present [] (slot_of g 0) ≡ true) refl refl form f in
    records_refused form (file_records - 1) 0 [] file cut_short (sym (search picks depth 10))

-- ---- in which form a file is read

read_short : (form : ℕ) → Form form → (file : List ℕ) → length file < 4 → decode_as form file ≡ decode file
unfolding decode
read_short form f file h = short_as form f file h ∙ sym (short_as (form_in file) (form_in_lem file) file h)

-- the one that the code reads it in: a file that ends before its first kind does is refused in both
pub read_own : (form : ℕ) (file : List ℕ) → form ≡ pick (ltb (length file) 4) plain_form (form_in file) → decode_as form file ≡ decode file
unfolding decode
read_own form file e = ap (λ (g : ℕ). decode_as g file) e ∙ go (ltb (length file) 4) refl
  where
    go : (t : Bool) → ltb (length file) 4 ≡ t → decode_as (pick t plain_form (form_in file)) file ≡ decode_as (form_in file) file
    go true q = read_short plain_form (inl refl) file (ltb-true (length file) 4 q)
    go false q = refl

-- ---- whether a leader is set

-- the leader of the segment with i before it
leader_at_lem : (d : District) (i : ℕ) → value_at d (segments_at + per_segment * i + leader_at) ≡ leader_of d (i + 1)
unfolding leader_of
leader_at_lem d i = let e : i + 1 - 1 ≡ i = omega arith in rw e

pub leader_none : (d : District) (i : ℕ) → value_at d (segments_at + per_segment * i + leader_at) ≡ 0 → leader_of d (i + 1) ≡ 0
leader_none d i e = sym (leader_at_lem d i) ∙ e

pub leader_set_lem : (d : District) (i : ℕ) → i < segments_of d → ¬ (value_at d (segments_at + per_segment * i + leader_at) ≡ 0) → leaderless d ≡ false
unfolding leaderless
leader_set_lem d i h e = all_fails (segments_of d) (λ (k : ℕ). eqb (leader_of d k) 0) (i + 1) (omega arith) (omega arith) (ne_eqb (leader_of d (i + 1)) 0 (λ z. e (leader_at_lem d i ∙ z)))

-- segments past the last place have none
pub no_leader : (d : District) → length d ≡ district_places → ((k : ℕ) → 1 ≤ k → k ≤ min (segments_of d) most_segments → leader_of d k ≡ 0) → leaderless d ≡ true
unfolding leaderless leader_of
no_leader d l h = all_true (segments_of d) (λ (k : ℕ). eqb (leader_of d k) 0) (λ k a b. eq-eqb (leader_of d k) 0 (each k a b (leb k most_segments) refl))
  where
    each : (k : ℕ) → 1 ≤ k → k ≤ segments_of d → (t : Bool) → leb k most_segments ≡ t → value_at d (leader_place k) ≡ 0
    each k a b true e = h k a (omega (arith, leb-true k most_segments e))
    each k a b false e = let m = leb-false k most_segments e in get_or-eq_default {A = ℕ} d 0 (omega arith)
