-- A file that does not load has one of the refusals for files; what a load gives, and a call that writes into a buffer.
use Prim.Native.Nat.{ℕ, zero, suc, ◌+◌, ◌-◌, ◌≤◌, ◌<◌}
use mathlib.Core.Path.{◌≡◌, subst}
use mathlib.Core.List.{List, [], ◌∷◌, ◌++◌}
use native.Mathlib.Omega.{arith}
use lib.Dec.{leb, ltb, eqb}
use borrow.Author.Tests.{le-leb, lt-leb}
use lib.ListN.{length, take, drop}
use Rattle.base.proofs.Choice.{pick_all}
use Rattle.base.specs.Bytes.{number_of}
use Rattle.rules.specs.Answers.{unless, answer_of, accepting, cut_short, other_kind, other_length, out_of_range, bytes_follow, Accepted, Refused}
use Rattle.rules.specs.Calls.{load_refusal_of, loaded_of, exported}
use Rattle.rules.specs.District.{District}
use Rattle.rules.specs.File.{Read, refused, found, value, size, read_numbers, kind_in, read_record, and_then, read_records, decode_as}
use Rattle.rules.specs.Format.{present, field_at, inside, slot_of, file_records, Slot}
use Rattle.file.specs.Forms.{load_refusal_as, district_as}

-- a refusal is one of document 01's table for files
abbrev Right : Read → Type 0
Right (refused n) = (1 ≤ n) × (n ≤ bytes_follow)
Right (found vs bs) = Unit {0}

numbers_right : (m : ℕ) (d : District) (s : Slot) (n : ℕ) (vs bs : List ℕ) → Right (read_numbers m d s n vs bs)
unfolding read_numbers
numbers_right zero d s n vs bs = tt
numbers_right (suc m) d s n vs bs =
    let f = field_at d s n in
    pick_all Right (inside f (value f bs)) _ (refused out_of_range) (numbers_right m d s (n + 1) (vs ++ value f bs ∷ []) (drop f.width bs)) (omega arith, omega arith)

record_right : (d : District) (s : Slot) (bs : List ℕ) → Right (read_record d s bs)
unfolding read_record
record_right d s bs =
    pick_all Right (present d s) _ _
    (pick_all Right (ltb (length bs) 4) (refused cut_short) _ (omega arith, omega arith)
    (pick_all Right (eqb (kind_in bs) s.kind) _ (refused other_kind)
    (pick_all Right (eqb (number_of (take 2 bs)) (size d s)) _ (refused other_length)
    (pick_all Right (ltb (length bs - 4) (size d s)) (refused cut_short) _ (omega arith, omega arith) (numbers_right s.places d s 0 [] (drop 4 bs)))
    (omega arith, omega arith))
    (omega arith, omega arith)))
    (numbers_right s.places d s 0 [] bs)

records_right : (form m n : ℕ) (d : District) (bs : List ℕ) → Right (read_records form m n d bs)
unfolding read_records
records_right form zero n d [] = tt
records_right form zero n d (b ∷ bs) = (omega arith, omega arith)
records_right form (suc m) n d bs = then (read_record d (slot_of form n) bs) (λ vs rest. read_records form m (n + 1) (d ++ vs) rest) (record_right d (slot_of form n) bs) (λ vs rest. records_right form m (n + 1) (d ++ vs) rest)
  where
    then : (r : Read) (next : List ℕ → List ℕ → Read) → Right r → ((vs rest : List ℕ) → Right (next vs rest)) → Right (and_then r next)
    then (refused k) next h all = h
    then (found vs rest) next h all = all vs rest

pub refusals_as : (form : ℕ) (file : List ℕ) (n : ℕ) → decode_as form file ≡ refused n → (1 ≤ n) × (n ≤ bytes_follow)
unfolding decode_as
refusals_as form file n e = subst Right e (records_right form file_records 0 [] file)

-- ---- what a load gives

pub refusal_found : (form : ℕ) (file d rest : List ℕ) → decode_as form file ≡ found d rest → 0 ≡ load_refusal_as form file
unfolding load_refusal_of
refusal_found form file d rest e = rw e

pub refusal_refused : (form : ℕ) (file : List ℕ) (n : ℕ) → decode_as form file ≡ refused n → n ≡ load_refusal_as form file
unfolding load_refusal_of
refusal_refused form file n e = rw e

pub district_found : (form : ℕ) (file d rest : List ℕ) → decode_as form file ≡ found d rest → d ≡ district_as form file
unfolding loaded_of
district_found form file d rest e = rw e

-- ---- what a call gives that writes into a buffer: whether that has the bytes that are needed decides

module _ (needed k : ℕ) (bytes buffer : List ℕ) where
  pub exported_short : length buffer < needed → record { answer = Refused (suc k); buffer = buffer } ≡ exported (unless (leb needed (length buffer)) (suc k) 0) bytes buffer
  unfolding exported answer_of accepting
  exported_short h = rw (lt-leb needed (length buffer) h)

  pub exported_fits : needed ≤ length buffer → record { answer = Accepted (length bytes); buffer = bytes ++ drop (length bytes) buffer } ≡ exported (unless (leb needed (length buffer)) k 0) bytes buffer
  unfolding exported answer_of accepting
  exported_fits h = rw (le-leb needed (length buffer) h)
