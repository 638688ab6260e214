-- One turn of `run`: the first of the calls that are left is read and made.
use Prim.Native.Nat.{ℕ, zero, suc, ◌+◌, ◌≤◌, ◌<◌}
use mathlib.Core.Path.{◌≡◌, refl, ap, ◌∙◌}
use mathlib.Core.List.{List, [], ◌∷◌}
use native.Mathlib.Omega.{arith}
use borrow.Author.Tests.{le-leb, lt-leb}
use lib.ListN.{length, drop, length-drop}
use Rattle.rules.specs.Answers.{Accepted}
use Rattle.rules.specs.Calls.{show_of}
use Rattle.rules.specs.Demands.{Sound}
use Rattle.rules.specs.Desks.{fresh_desk, desk_by, answer_to, desk_from, desk_after}
use Rattle.rules.specs.DeskDemands.{desk_district}
use Rattle.demands.proofs.desks.EveryDesk.{every_desk}
use Rattle.station.specs.Kept.{office_in}
use Rattle.desk.specs.Kept.{KeepsDesk, DeskReply, Happens}
use Rattle.desk.specs.declared.Desk.{Desk}
use Rattle.script.specs.Script.{body_in, named_by, Entry, entry_in, entries_in, entries_of, events_of, Answered, answered_from, answered_after, last_answer, office_from, last_office}
use Rattle.script.specs.Calls.{event_by, entry_by, IsFirst}
use Rattle.script.specs.declared.Call.{Call}
use Rattle.rules.specs.declared.Which.{Which}

-- the answer and the desk are what came, from which the calls of the bytes that are left lead to what the whole list comes to; and so for the office
-- named
pub record Stands (s bytes : List ℕ) (r : DeskReply) (office : ℕ) : Type 0 where
  pub came : Answered
  pub answer : r.answer ≡ came.answer
  pub desk : KeepsDesk r.desk came.desk
  -- at most so many calls are left
  pub most : ℕ
  pub enough : length bytes ≤ most
  pub rest : answered_from came (entries_in most bytes) ≡ answered_after (entries_of s)
  pub named : office_from office (entries_in most bytes) ≡ last_office (entries_of s)

pub starts : (s : List ℕ) (d : Desk) → KeepsDesk d fresh_desk → Stands s s (record { answer = Accepted 0; desk = d }) 1
unfolding answered_after entries_of last_office
starts s d k =
    record { came = record { answer = Accepted 0; desk = fresh_desk }; answer = refl; desk = k; most = length s; enough = omega arith; rest = refl; named = refl }

none_left : (n : ℕ) (bs : List ℕ) → length bs < 17 + body_in bs → entries_in n bs ≡ []
unfolding entries_in
none_left zero bs h = refl
none_left (suc n) bs h = rw (lt-leb (17 + body_in bs) (length bs) h)

more_left : (n : ℕ) (bs : List ℕ) → 17 + body_in bs ≤ length bs → entries_in (suc n) bs ≡ entry_in bs ∷ entries_in n (drop (17 + body_in bs) bs)
unfolding entries_in
more_left n bs h = rw (le-leb (17 + body_in bs) (length bs) h)

-- fewer bytes are left behind a call
pub shorter : (bytes after : List ℕ) (c : Call) → IsFirst bytes c after → length after < length bytes
shorter bytes after c first = rw first.rest (omega (arith, first.whole, length-drop (17 + body_in bytes) bytes))

-- the first call is made
pub turned :
    (s bytes after : List ℕ) (c : Call) (r next : DeskReply) (office named : ℕ) → IsFirst bytes c after → Happens r.desk (event_by c) next
    → named ≡ named_by c.kind c.office → Stands s bytes r office → Stands s after next named
unfolding answered_from office_from
turned s bytes after c r next office named first happens is stands = go stands.most refl
  where
    go : (n : ℕ) → stands.most ≡ n → Stands s after next named
    go zero e = absurd (omega (arith, stands.enough, first.whole))
    go (suc m) e =
        let all : entries_in stands.most bytes ≡ entry_by c ∷ entries_in m after =
        rw (e, first.entry, first.rest) (more_left m bytes first.whole) in
        let made = happens stands.came.desk stands.desk in
        record {
          came = record { answer = answer_to stands.came.desk (event_by c); desk = desk_by stands.came.desk (event_by c) };
          answer = made.answer;
          desk = made.desk;
          most = m;
          enough = omega (arith, stands.enough, shorter bytes after c first);
          rest = rw all at stands.rest;
          named = rw is (rw all at stands.named);
        }

-- ---- what the contract says of the reply after the list

desk_from_lem : (a : Answered) (es : List Entry) → (answered_from a es).desk ≡ desk_from a.desk (events_of es)
unfolding answered_from desk_from events_of
desk_from_lem a [] = refl
desk_from_lem a (e ∷ es) = desk_from_lem (record { answer = answer_to a.desk e.event; desk = desk_by a.desk e.event }) es

desk_after_lem : (es : List Entry) → (answered_after es).desk ≡ desk_after (events_of es)
unfolding answered_after desk_after
desk_after_lem es = desk_from_lem _ es

-- what the contract says, with the claim over the list, of each office
pub record Ends (s : List ℕ) (r : DeskReply) (office : ℕ) : Type 0 where
  pub after : KeepsDesk r.desk (desk_after (events_of (entries_of s)))
  pub last : r.answer ≡ last_answer (entries_of s)
  pub named : office ≡ last_office (entries_of s)
  pub claim : (w : Which) → Sound (desk_district w (events_of (entries_of s))) (show_of (office_in w r.desk.station).unit)

-- no call is left
pub ends : (s bytes : List ℕ) (r : DeskReply) (office : ℕ) → length bytes < 17 + body_in bytes → Stands s bytes r office → Ends s r office
unfolding answered_from last_answer office_from
ends s bytes r office few stands =
    let none = none_left stands.most bytes few in
    let e : stands.came ≡ answered_after (entries_of s) = rw none at stands.rest in
    let k : KeepsDesk r.desk (desk_after (events_of (entries_of s))) = rw (e, desk_after_lem (entries_of s)) at stands.desk in
    record {
      after = k;
      last = stands.answer ∙ ap (λ (a : Answered). a.answer) e;
      named = rw none at stands.named;
      claim = λ w. rw (k.station w).unit ((every_desk (events_of (entries_of s))).sound w);
    }
