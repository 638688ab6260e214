-- Numbers that are read one after another, each in its range, are a district in the ranges of its form, whatever they are read from.
use Prim.Native.Nat.{ℕ, zero, suc, ◌+◌, ◌≤◌, ◌<◌}
use mathlib.Core.Path.{◌≡◌, refl, sym, ap, subst, ◌∙◌}
use mathlib.Core.Bool.{true}
use mathlib.Core.List.{List, [], ◌∷◌, ◌++◌, append-nil}
use mathlib.Core.Logic.{⊎_elim}
use native.Mathlib.Nat.{add-zero, zero-add, eq-or-lt_of_le}
use native.Mathlib.Omega.{arith}
use lib.ListN.{length, get_or, take}
use lib.Seq.{append_snoc, get_or-append-add, get_or-take, take_at, take-take}
use Rattle.rules.specs.District.{District, value_at, district_places}
use Rattle.rules.specs.Format.{slot_of, field_at, inside, file_records, Slot}
use Rattle.grammar.specs.Places.{Form, start_of}
use Rattle.grammar.proofs.InRange.{InRange}
use Rattle.grammar.proofs.Slots.{start_next, ready}
use Rattle.file.proofs.Steps.{all_places}

-- ---- a record's numbers

-- m numbers are read behind vs, from the record's n-th on
pub record Took (u : District) (s : Slot) (m n : ℕ) (vs all : List ℕ) : Type 0 where
  pub ws : List ℕ
  pub all_is : all ≡ vs ++ ws
  pub count : length ws ≡ m
  pub good : (i : ℕ) → i < m → inside (field_at u s (n + i)) (get_or ws i 0) ≡ true

pub record TookRecord (u : District) (s : Slot) (vs : List ℕ) : Type 0 where
  pub count : length vs ≡ s.places
  pub good : (i : ℕ) → i < s.places → inside (field_at u s i) (get_or vs i 0) ≡ true

module _ (u : District) (s : Slot) where
  abbrev pub took_none : (n : ℕ) (vs all : List ℕ) → vs ≡ all → Took u s 0 n vs all
  took_none n vs all e = record { ws = []; all_is = sym e ∙ sym (append-nil vs); count = refl; good = λ i q. absurd (omega arith) }

  -- one number in front
  abbrev pub took_more : (m n x : ℕ) (vs all : List ℕ) → inside (field_at u s n) x ≡ true → Took u s m (n + 1) (vs ++ x ∷ []) all → Took u s (suc m) n vs all
  took_more m n x vs all t ih = record { ws = x ∷ ih.ws; all_is = ih.all_is ∙ append_snoc vs x ih.ws; count = ap suc ih.count; good = every }
    where
      every : (i : ℕ) → i < suc m → inside (field_at u s (n + i)) (get_or (x ∷ ih.ws) i 0) ≡ true
      every zero q = rw add-zero t
      every (suc j) q = let y : n + 1 + j ≡ n + suc j = omega arith in rw y at (ih.good j (omega arith))

  pub took_record : (vs : List ℕ) → Took u s s.places 0 [] vs → TookRecord u s vs
  took_record vs k = record { count = ap length k.all_is ∙ k.count; good = λ i q. rw k.all_is (rw zero-add at (k.good i q)) }

-- ---- all records

-- those from the n-th on, after the numbers u
pub record TookAll (form : ℕ) (d : District) (n : ℕ) (u : List ℕ) : Type 0 where
  pub front : take (start_of n) d ≡ u
  pub all_of : length d ≡ district_places
  pub good : (q i : ℕ) → n ≤ q → q < file_records → i < (slot_of form q).places → inside (field_at d (slot_of form q) i) (value_at d (start_of q + i)) ≡ true

pub took_end : (form : ℕ) (d : District) (n : ℕ) (u : List ℕ) → n ≡ file_records → length u ≡ start_of n → u ≡ d → TookAll form d n u
took_end form d n u z l v =
    let a : length u ≡ district_places = rw z at l in
    let b : length d ≡ district_places = ap length (sym v) ∙ a in
    record { front = all_places d b n z ∙ sym v; all_of = b; good = λ q i x y w. absurd (omega arith) }

-- one record in front
module _ (form : ℕ) (f : Form form) (d : District) (n : ℕ) (lt : n < file_records) (u vs : List ℕ) (len : length u ≡ start_of n) (k : TookRecord u (slot_of form n) vs) (ih : TookAll form d (n + 1) (u ++ vs)) where
  next_front : take (start_of n + (slot_of form n).places) d ≡ u ++ vs
  next_front = rw (start_next form n) at ih.front

  pub this_front : take (start_of n) d ≡ u
  this_front =
      sym (take-take (start_of n) (start_of n + (slot_of form n).places) d (omega arith)) ∙ ap (take (start_of n)) next_front ∙ take_at u vs (start_of n) len

  pub agree : (i : ℕ) → i < (slot_of form n).places → field_at u (slot_of form n) i ≡ field_at d (slot_of form n) i
  agree i h = ap (λ (l : List ℕ). field_at l (slot_of form n) i) (sym this_front) ∙ (ready form f n lt).field d i h

  pub value_is : (i : ℕ) → i < (slot_of form n).places → get_or d (start_of n + i) 0 ≡ get_or vs i 0
  value_is i h =
      sym (get_or-take (start_of n + (slot_of form n).places) d (start_of n + i) 0 (omega arith))
      ∙ ap (λ (l : List ℕ). get_or l (start_of n + i) 0) next_front
      ∙ ap (λ (p : ℕ). get_or (u ++ vs) (p + i) 0) (sym len)
      ∙ get_or-append-add u vs i 0

  this_good : (i : ℕ) → i < (slot_of form n).places → inside (field_at d (slot_of form n) i) (value_at d (start_of n + i)) ≡ true
  this_good i h = rw (← agree i h, value_is i h) (k.good i h)

  pub took_next : TookAll form d n u
  took_next = record { front = this_front; all_of = ih.all_of; good = every }
    where
      every : (q i : ℕ) → n ≤ q → q < file_records → i < (slot_of form q).places → inside (field_at d (slot_of form q) i) (value_at d (start_of q + i)) ≡ true
      every q i a b c =
          ⊎_elim (λ (e : n ≡ q). subst (λ (q : ℕ). i < (slot_of form q).places → inside (field_at d (slot_of form q) i) (value_at d (start_of q + i)) ≡ true) e (this_good i) c)
          (λ l. ih.good q i (omega arith) b c)
          (eq-or-lt_of_le a)

pub took_range : (form : ℕ) (d : District) (u : List ℕ) → TookAll form d 0 u → InRange form d
took_range form d u k = record { places = k.all_of; values = λ n i a b. k.good n i (omega arith) a b }
