-- A file that is turned is turned back, and both load alike.
use Prim.Native.Nat.{ℕ, zero, suc, ◌≤◌}
use mathlib.Core.Path.{◌≡◌, refl, sym, ap, ◌∙◌}
use mathlib.Core.Bool.{Bool, true, false}
use mathlib.Core.List.{List, []}
use mathlib.Core.Logic.{inl, inr}
use native.Mathlib.Omega.{arith}
use lib.ListN.{length}
use Rattle.base.specs.Bytes.{Bytes}
use Rattle.rules.specs.Answers.{answer_of, leader_set, unless, or_later}
use Rattle.rules.specs.Calls.{load_refusal_of, load_refusal, loaded_of, district_in, answered, load_of}
use Rattle.rules.specs.Conversions.{up_refusal, up_file, lost_leader, down_refusal, down_file}
use Rattle.rules.specs.District.{District}
use Rattle.rules.specs.File.{found, decode_as, decode, encode_as, leaderless, in_range, longest_file}
use Rattle.rules.specs.Format.{plain_form, leader_form}
use Rattle.rules.specs.declared.Unit.{Unit}
use Rattle.grammar.specs.Places.{Form, Suits}
use Rattle.file.proofs.Back.{decode_encode_as, decode_own}
use Rattle.file.proofs.Forth.{encode_decode_as, found_as}
use Rattle.file.proofs.Longest.{longest_as}
use Rattle.convert.specs.Returns.{Returns, UpAndDown, DownAndUp}

-- ---- a file that is read in one form, and its district's file in another that has room for its leaders

load_alike : (a b : List ℕ) (d : District) → decode a ≡ found d [] → decode b ≡ found d [] → (u : Unit) → load_of u a ≡ load_of u b
unfolding load_of load_refusal district_in
load_alike a b d p q u = rw (p, q)

load_accepted : (a : List ℕ) (d : District) → decode a ≡ found d [] → (u : Unit) → (load_of u a).answer ≡ answer_of 0 0
unfolding load_of load_refusal load_refusal_of answered
load_accepted a d p u = rw p

module _ (from to : ℕ) (f : Form from) (t : Form to) (file : List ℕ) (e : load_refusal_of (decode_as from file) ≡ 0) where
  abbrev d : District
  d = loaded_of (decode_as from file)

  read : (Bytes file → encode_as from d ≡ file) × (in_range d ≡ true) × Suits from d
  read = let k = encode_decode_as from f file d [] (found_as from f file e) in (k.0, k.1, k.2)

  turned_fits : length (encode_as to d) ≤ longest_file
  turned_fits = longest_as to t d read.1

  module _ (s : Suits to d) where
    turned_read : decode_as to (encode_as to d) ≡ found d []
    turned_read = decode_encode_as to t d read.1 s

    turned_returns : Bytes file → (refusal : ℕ) (again : List ℕ) → refusal ≡ 0 → again ≡ encode_as from d → Returns file (encode_as to d) refusal again
    unfolding answer_of
    turned_returns b refusal again n q =
        let old = ap decode (sym (read.0 b)) ∙ decode_own from f d read.1 read.2 in
        record {
          accepted = n;
          returned = q ∙ read.0 b;
          loads = load_accepted file d old;
          alike = load_alike (encode_as to d) file d (decode_own to t d read.1 s) old;
        }

-- ---- up

leaders_suit : (d : District) → Suits leader_form d
leaders_suit d e = absurd (omega arith)

pub up_and_down : (file : List ℕ) → UpAndDown file
unfolding up_refusal up_file down_refusal down_file load_refusal_of loaded_of
up_and_down file b e =
    let d = loaded_of (decode_as plain_form file) in
    let s = leaders_suit d in
    let r = turned_read plain_form leader_form (inl refl) (inr refl) file e s in
    let none = (read plain_form leader_form (inl refl) (inr refl) file e).2 refl in
    turned_returns plain_form leader_form (inl refl) (inr refl) file e s b _ _ (rw (r, none)) (rw r)

pub up_fits : (file : List ℕ) → up_refusal file ≡ 0 → length (up_file file) ≤ longest_file
unfolding up_refusal up_file
up_fits file e = turned_fits plain_form leader_form (inl refl) (inr refl) file e

-- ---- down

-- what is not refused has no leader. The first half is a law of stations too, which convert does not stand on; these cases give both
down_accepted : (n : ℕ) (d : District) → or_later n (lost_leader d) ≡ 0 → (n ≡ 0) × (leaderless d ≡ true)
down_accepted (suc n) d e = absurd (omega arith)
down_accepted zero d e = (refl, go (leaderless d) e)
  where
    go : (t : Bool) → unless t leader_set 0 ≡ 0 → t ≡ true
    go true q = refl
    go false q = absurd (omega arith)

pub down_and_up : (file : List ℕ) → DownAndUp file
unfolding up_refusal up_file down_refusal down_file load_refusal_of loaded_of
down_and_up file b e =
    let k = down_accepted (load_refusal_of (decode_as leader_form file)) (loaded_of (decode_as leader_form file)) e in
    let s : Suits plain_form (loaded_of (decode_as leader_form file)) = λ q. k.1 in
    let r = turned_read leader_form plain_form (inr refl) (inl refl) file k.0 s in
    turned_returns leader_form plain_form (inr refl) (inl refl) file k.0 s b _ _ (rw r) (rw r)

pub down_fits : (file : List ℕ) → down_refusal file ≡ 0 → length (down_file file) ≤ longest_file
unfolding down_refusal down_file
down_fits file e = turned_fits leader_form plain_form (inr refl) (inl refl) file (down_accepted (load_refusal_of (decode_as leader_form file)) (loaded_of (decode_as leader_form file)) e).0
