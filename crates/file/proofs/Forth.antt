-- A file that loads is the file of the district that it loads as, which is in the file's ranges.
use Prim.Native.Nat.{ℕ, zero, suc, ◌+◌, ◌-◌, ◌≤◌, ◌<◌}
use mathlib.Core.Path.{◌≡◌, refl, sym, ap, subst, ◌∙◌}
use mathlib.Core.Bool.{Bool, true, false, ◌&&◌}
use mathlib.Core.List.{List, [], ◌∷◌, ◌++◌, append_assoc}
use native.Mathlib.Nat.{add-zero}
use native.Mathlib.Omega.{arith}
use lib.Dec.{ltb, eqb}
use lib.ListN.{length, get_or, take, drop, length-append, length-drop, take-append-drop}
use lib.Seq.{drop-drop}
use borrow.Author.Tests.{ltb-false, eqb-true}
use Rattle.base.proofs.Bytes.{bytes_drop, bytes_suffix, front_bytes}
use Rattle.base.proofs.Choice.{pick_yes}
use Rattle.base.specs.Bytes.{Bytes, bytes_of, number_of}
use Rattle.base.specs.Choice.{pick}
use Rattle.std.specs.Prelude.{Result, Ok, Err, IfOk}
use Rattle.rules.specs.Answers.{refusal_in}
use Rattle.rules.specs.declared.refusals.Refusal.{Refusal}
use Rattle.rules.specs.Calls.{load_refusal_of, load_refusal, loaded_of, district_in}
use Rattle.rules.specs.Demands.{led_by_none}
use Rattle.rules.specs.District.{District}
use Rattle.rules.specs.File.{Read, refused, found, value, widths, size, read_numbers, read_record, read_records, decode_as, form_in, decode, number_bytes, header_bytes, record_bytes, records_bytes, encode_as, leaderless, encode, in_range}
use Rattle.rules.specs.Format.{leader_form, slot_of, present, field_at, inside, file_records, Slot}
use Rattle.grammar.specs.Places.{Form, Suits, start_of, Ready}
use Rattle.grammar.proofs.Forms.{range_form}
use Rattle.grammar.proofs.Slots.{start_next, ready}
use Rattle.file.specs.Forms.{load_refusal_as, district_as}
use Rattle.file.proofs.TwoForms.{form_in_lem, form_kept}
use Rattle.file.proofs.Refusals.{refusals_as}
use Rattle.file.proofs.Took.{Took, TookRecord, TookAll, took_none, took_more, took_record, took_end, this_front, agree, value_is, took_next, took_range}
use Rattle.file.proofs.Steps.{widths_none, widths_take, header_there, header_none, record_none, records_found, records_refused}

-- ---- what is found was not refused

-- a test with a refusal on the side other than `side` went to `side`
passed : (side b : Bool) (k : ℕ) (y : Read) (vs rest : List ℕ) → pick b (pick side y (refused k)) (pick side (refused k) y) ≡ found vs rest → (b ≡ side) × (y ≡ found vs rest)
passed true true k y vs rest e = (refl, e)
passed true false k y vs rest e = absurd cc
passed false true k y vs rest e = absurd cc
passed false false k y vs rest e = (refl, e)

-- ---- a record's numbers

-- the bytes of numbers of the record s, from its n-th on
value_bytes : District → Slot → ℕ → List ℕ → List ℕ
value_bytes u s n [] = []
value_bytes u s n (x ∷ ws) = bytes_of (field_at u s n).width x ++ value_bytes u s (n + 1) ws

-- what it says of the bytes that m numbers are read
record TookFrom (u : District) (s : Slot) (m n : ℕ) (vs bs all rest : List ℕ) : Type 0 where
  took : Took u s m n vs all
  bytes : Bytes bs → bs ≡ value_bytes u s n took.ws ++ rest

module _ (u : District) (s : Slot) where
  -- one number in front
  more_from : (m n : ℕ) (vs bs all rest : List ℕ) → let f = field_at u s n in let x = value f bs in f.width ≤ length bs → inside f x ≡ true → TookFrom u s m (n + 1) (vs ++ x ∷ []) (drop f.width bs) all rest → TookFrom u s (suc m) n vs bs all rest
  unfolding value_bytes
  more_from m n vs bs all rest l t ih =
      let w = (field_at u s n).width in
      let x = value (field_at u s n) bs in
      record {
        took = took_more u s m n x vs all t ih.took;
        bytes = λ h.
            sym (take-append-drop w bs)
            ∙ ap (λ (y : List ℕ). y ++ drop w bs) (sym (front_bytes w bs h l))
            ∙ ap (λ (y : List ℕ). bytes_of w x ++ y) (ih.bytes (bytes_drop w bs h))
            ∙ sym (append_assoc (bytes_of w x) (value_bytes u s (n + 1) ih.took.ws) rest);
      }

  numbers_forth : (m n : ℕ) (vs bs all rest : List ℕ) → widths m u s n ≤ length bs → read_numbers m u s n vs bs ≡ found all rest → TookFrom u s m n vs bs all rest
  unfolding value_bytes read_numbers
  numbers_forth zero n vs bs all rest l e = record { took = took_none u s n vs all (cc); bytes = λ h. cc }
  numbers_forth (suc m) n vs bs all rest l e =
      let f = field_at u s n in
      let x = value f bs in
      let t = passed true (inside f x) 4 _ all rest e in
      more_from m n vs bs all rest (omega arith) t.0
      (numbers_forth m (n + 1) (vs ++ x ∷ []) (drop f.width bs) all rest (simp length-drop (omega arith)) t.1)

-- the same bytes, as the export writes them
values_are : (d u : District) (s : Slot) → ((i : ℕ) → i < s.places → field_at u s i ≡ field_at d s i) → (ws : List ℕ) (m n place : ℕ) → length ws ≡ m → n + m ≤ s.places → ((i : ℕ) → i < m → get_or d (place + i) 0 ≡ get_or ws i 0) → value_bytes u s n ws ≡ number_bytes m d s n place
unfolding value_bytes number_bytes
values_are d u s agree [] zero n place c h g = refl
values_are d u s agree [] (suc m) n place c h g = absurd (omega arith)
values_are d u s agree (x ∷ ws) zero n place c h g = absurd (omega arith)
values_are d u s agree (x ∷ ws) (suc m) n place c h g =
    let e : x ≡ get_or d place 0 = sym (rw add-zero at (g 0 (omega arith))) in
    let t : (i : ℕ) → i < m → get_or d (place + 1 + i) 0 ≡ get_or ws i 0 = λ i q. let y : place + suc i ≡ place + 1 + i = omega arith in rw y at (g (suc i) (omega arith)) in
    rw (agree n (omega arith), e, values_are d u s agree ws m (n + 1) (place + 1) (omega arith) (omega arith) t)

-- ---- a record

-- what it says of the bytes that a record is read, with the numbers vs
record RecordFrom (u : District) (s : Slot) (bs vs rest : List ℕ) : Type 0 where
  took : TookRecord u s vs
  bytes : Bytes bs → bs ≡ header_bytes u s ++ (value_bytes u s 0 vs ++ rest)

module _ (u : District) (s : Slot) (bs vs rest : List ℕ) where
  -- what the tests say
  tests : present u s ≡ true → read_record u s bs ≡ found vs rest → (number_of (take 2 (drop 2 bs)) ≡ s.kind) × (number_of (take 2 bs) ≡ size u s) × (size u s ≤ length bs - 4) × (4 ≤ length bs) × (read_numbers s.places u s 0 [] (drop 4 bs) ≡ found vs rest)
  unfolding read_record
  tests t e =
      let e₀ = pick_yes (present u s) _ _ (read_numbers s.places u s 0 [] bs) t refl ∙ e in
      let e₁ = passed false (ltb (length bs) 4) 1 _ vs rest e₀ in
      let e₂ = passed true (eqb (number_of (take 2 (drop 2 bs))) s.kind) 2 _ vs rest e₁.1 in
      let e₃ = passed true (eqb (number_of (take 2 bs)) (size u s)) 3 _ vs rest e₂.1 in
      let e₄ = passed false (ltb (length bs - 4) (size u s)) 1 _ vs rest e₃.1 in
      (eqb-true _ _ e₂.0, eqb-true _ _ e₃.0, ltb-false _ _ e₄.0, ltb-false _ _ e₁.0, e₄.1)

  -- the first four bytes are the header
  header_is : present u s ≡ true → 4 ≤ length bs → number_of (take 2 (drop 2 bs)) ≡ s.kind → number_of (take 2 bs) ≡ size u s → Bytes bs → bs ≡ header_bytes u s ++ drop 4 bs
  header_is t l k n h =
      let m : 2 ≤ length (drop 2 bs) = simp length-drop (omega arith) in
      let a : take 2 bs ≡ bytes_of 2 (size u s) = sym (front_bytes 2 bs h (omega arith)) ∙ ap (bytes_of 2) n in
      let b : take 2 (drop 2 bs) ≡ bytes_of 2 s.kind = sym (front_bytes 2 (drop 2 bs) (bytes_drop 2 bs h) m) ∙ ap (bytes_of 2) k in
      sym (take-append-drop 2 bs)
      ∙ ap (λ (y : List ℕ). y ++ drop 2 bs) a
      ∙ ap (λ (y : List ℕ). bytes_of 2 (size u s) ++ y) (sym (take-append-drop 2 (drop 2 bs)) ∙ ap (λ (y : List ℕ). y ++ drop 2 (drop 2 bs)) b ∙ ap (λ (y : List ℕ). bytes_of 2 s.kind ++ y) (drop-drop 2 2 bs))
      ∙ ap (λ (y : List ℕ). y ++ drop 4 bs) (sym (header_there u s t))

  with_header : (cs : List ℕ) → (Bytes bs → bs ≡ header_bytes u s ++ cs) → (Bytes bs → Bytes cs) → TookFrom u s s.places 0 [] cs vs rest → RecordFrom u s bs vs rest
  with_header cs e b k =
      record {
        took = took_record u s vs k.took;
        bytes = λ h. e h ∙ ap (λ (y : List ℕ). header_bytes u s ++ y) (k.bytes (b h) ∙ ap (λ (y : List ℕ). value_bytes u s 0 y ++ rest) (sym k.took.all_is));
      }

  record_forth : read_record u s bs ≡ found vs rest → RecordFrom u s bs vs rest
  record_forth e = go (present u s) refl
    where
      go : (b : Bool) → present u s ≡ b → RecordFrom u s bs vs rest
      go false t =
          with_header bs (λ h. ap (λ (y : List ℕ). y ++ bs) (sym (header_none u s t))) (λ h. h)
          (numbers_forth u s s.places 0 [] bs vs rest (omega (arith, widths_none s.places u s 0 t)) (sym (record_none u s bs t) ∙ e))
      go true t =
          let q = tests t e in
          let l : size u s ≤ length (drop 4 bs) = simp length-drop (omega (arith, q.2, q.3)) in
          with_header (drop 4 bs) (header_is t q.3 q.0 q.1) (bytes_drop 4 bs)
          (numbers_forth u s s.places 0 [] (drop 4 bs) vs rest l q.4)

-- ---- the file

-- what it says of the bytes that the records from the n-th on are read as d, after the numbers u, and leave the bytes end
record AllFrom (form : ℕ) (d : District) (m n : ℕ) (u bs end : List ℕ) : Type 0 where
  none : end ≡ []
  took : TookAll form d n u
  bytes : Bytes bs → bs ≡ records_bytes form m d n (start_of n)

header_take : {s : Slot} {place : ℕ} → Ready s place → (d : District) → header_bytes (take place d) s ≡ header_bytes d s
header_take {s} {place} r d = rw (r.here d, widths_take r d s.places 0 (omega arith))

-- one record in front
module _ (form : ℕ) (f : Form form) (d : District) (m n : ℕ) (lt : n < file_records) (u bs vs rest end : List ℕ) (len : length u ≡ start_of n) (k : RecordFrom u (slot_of form n) bs vs rest) (ih : AllFrom form d m (n + 1) (u ++ vs) rest end) where
  rest_bytes : Bytes bs → Bytes rest
  rest_bytes h =
      bytes_suffix (value_bytes u (slot_of form n) 0 vs) rest (bytes_suffix (header_bytes u (slot_of form n)) (value_bytes u (slot_of form n) 0 vs ++ rest) (subst Bytes (k.bytes h) h))

  these_bytes : Bytes bs → bs ≡ records_bytes form (suc m) d n (start_of n)
  unfolding records_bytes
  these_bytes h =
      let s = slot_of form n in
      let p = start_of n in
      k.bytes h
      ∙ ap (λ (y : List ℕ). y ++ (value_bytes u s 0 vs ++ rest)) (ap (λ (l : List ℕ). header_bytes l s) (sym (this_front form f d n lt u vs len k.took ih.took)) ∙ header_take (ready form f n lt) d)
      ∙ ap (λ (y : List ℕ). header_bytes d s ++ (y ++ rest)) (values_are d u s (agree form f d n lt u vs len k.took ih.took) vs s.places 0 p k.took.count (omega arith) (value_is form f d n lt u vs len k.took ih.took))
      ∙ sym (append_assoc (header_bytes d s) (number_bytes s.places d s 0 p) rest)
      ∙ ap (λ (y : List ℕ). record_bytes d s p ++ y) (rw (start_next form n) at (ih.bytes (rest_bytes h)))

  record_from : AllFrom form d (suc m) n u bs end
  record_from = record { none = ih.none; took = took_next form f d n lt u vs len k.took ih.took; bytes = these_bytes }

module _ (form : ℕ) (f : Form form) where
  records_forth : (d : District) (m n : ℕ) (u bs rest : List ℕ) → n + m ≡ file_records → length u ≡ start_of n → read_records form m n u bs ≡ found d rest → AllFrom form d m n u bs rest
  unfolding read_records records_bytes
  records_forth d zero n u [] rest e l q = record { none = cc; took = took_end form d n u (omega arith) l (cc); bytes = λ h. refl }
  records_forth d zero n u (b ∷ bs) rest e l q = absurd cc
  records_forth d (suc m) n u bs rest e l q = go (read_record u (slot_of form n) bs) refl (λ vs cs. records_forth d m (n + 1) (u ++ vs) cs rest (omega arith))
    where
      go : (o : Read) → read_record u (slot_of form n) bs ≡ o → ((vs cs : List ℕ) → length (u ++ vs) ≡ start_of (n + 1) → read_records form m (n + 1) (u ++ vs) cs ≡ found d rest → AllFrom form d m (n + 1) (u ++ vs) cs rest) → AllFrom form d (suc m) n u bs rest
      go (refused k) t ih = absurd (cc (sym (records_refused form m n u bs k t) ∙ q))
      go (found vs cs) t ih =
          let k = record_forth u (slot_of form n) bs vs cs t in
          let c : length (u ++ vs) ≡ start_of (n + 1) = omega (arith, length-append u vs, start_next form n, k.took.count) in
          record_from form f d m n (omega arith) u bs vs cs rest l k (ih vs cs c (sym (records_found form m n u bs vs cs t) ∙ q))

-- of each form,
pub encode_decode_as : (form : ℕ) → Form form → (file d rest : List ℕ) → decode_as form file ≡ found d rest → (Bytes file → encode_as form d ≡ file) × (in_range d ≡ true) × Suits form d × (rest ≡ [])
unfolding decode_as encode_as
encode_decode_as form f file d rest e =
    let k = records_forth form f d file_records 0 [] file rest refl refl e in
    let r = range_form form f d (took_range form d [] k.took) in
    ((λ h. sym (k.bytes h)), r.0, r.1, k.none)

-- and of the form that the file names, where that is the form of the district's file
pub encode_decode : (file d rest : List ℕ) → decode file ≡ found d rest → (Bytes file → (eqb (form_in file) leader_form && leaderless d) ≡ false → encode d ≡ file) × (in_range d ≡ true) × (rest ≡ [])
unfolding decode encode
encode_decode file d rest e =
    let k = encode_decode_as (form_in file) (form_in_lem file) file d rest e in
    ((λ h t. ap (λ (g : ℕ). encode_as g d) (form_kept (form_in file) (form_in_lem file) d k.2 t) ∙ k.0 h), k.1, k.3)

-- ---- what a file loads as

pub found_as : (form : ℕ) → Form form → (file : List ℕ) → load_refusal_of (decode_as form file) ≡ 0 → decode_as form file ≡ found (loaded_of (decode_as form file)) []
unfolding load_refusal_of loaded_of
found_as form f file e = go (decode_as form file) refl
  where
    go : (r : Read) → decode_as form file ≡ r → r ≡ found (loaded_of r) []
    go (refused n) q = absurd (omega (arith, refusals_as form file n q, ap load_refusal_of q))
    go (found d rest) q = ap (found d) (encode_decode_as form f file d rest q).3

pub loads_as : (file : List ℕ) → load_refusal file ≡ 0 → (Bytes file → led_by_none file ≡ false → encode (district_in file) ≡ file) × (in_range (district_in file) ≡ true)
unfolding load_refusal district_in decode
loads_as file e = let k = encode_decode file _ [] (found_as (form_in file) (form_in_lem file) file e) in (k.0, k.1)

-- what loads in a form in which the file is read as it is in its own, loads from the file, and is in the file's ranges; d is
-- the district that comes with what is answered
pub load_own : {A : Type 0} (d : A → District) (form : ℕ) (file : List ℕ) → decode_as form file ≡ decode file → (r : Result A Refusal) → refusal_in r ≡ load_refusal_as form file → IfOk r (λ a. d a ≡ district_as form file)
    → (refusal_in r ≡ load_refusal file) × IfOk r (λ a. d a ≡ district_in file) × IfOk r (λ a. in_range (d a) ≡ true)
unfolding load_refusal district_in
load_own d form file e (Ok a) f g =
    let z : 0 ≡ load_refusal_of (decode file) = rw e at f in
    let q : d a ≡ loaded_of (decode file) = rw e at g in
    (z, q, rw q (loads_as file (sym z)).1)
load_own d form file e (Err refusal) f g = (rw e at f, tt, tt)
