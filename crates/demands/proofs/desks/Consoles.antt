-- Laws of the four consoles: their numbers, their circular order, their queues.
use Prim.Native.Nat.{ℕ, zero, suc, ◌+◌, ◌<◌}
use mathlib.Core.Path.{◌≡◌, refl, sym, ap, ◌∙◌}
use mathlib.Core.Bool.{Bool, true, false}
use mathlib.Core.List.{List}
use Rattle.std.specs.Prelude.{None, Some}
use native.Mathlib.Nat.{zero-add, suc-add}
use native.Mathlib.Omega.{arith}
use borrow.Author.Tests.{eqb-true, ne_eqb}
use lib.Dec.{eqb}
use Rattle.base.specs.Choice.{pick}
use Rattle.rules.specs.Desks.{console_number, console_of, next_to, Queues, queue_of, with_queue, with_turn}
use Rattle.rules.specs.DeskDemands.{further}
use Rattle.rules.specs.declared.Console.{Console}
use Rattle.rules.specs.declared.Console.TheVariants.{One, Two, Three, Four}
use Rattle.rules.specs.declared.Waiting.{Waiting}

-- ---- numbers

pub number_named : (c : Console) → console_of (console_number c) ≡ Some c
number_named One = refl
number_named Two = refl
number_named Three = refl
number_named Four = refl

pub named_number : (n : ℕ) (c : Console) → console_of n ≡ Some c → n ≡ console_number c
named_number n c e = go (eqb n 1) refl (eqb n 2) refl (eqb n 3) refl (eqb n 4) refl e
  where
    go : (s : Bool) → eqb n 1 ≡ s → (t : Bool) → eqb n 2 ≡ t → (u : Bool) → eqb n 3 ≡ u → (v : Bool) → eqb n 4 ≡ v
        → pick s (Some One) (pick t (Some Two) (pick u (Some Three) (pick v (Some Four) None))) ≡ Some c → n ≡ console_number c
    go true p t q u r v s e = let i : One ≡ c = cc in rw (← i) (eqb-true n 1 p)
    go false p true q u r v s e = let i : Two ≡ c = cc in rw (← i) (eqb-true n 2 q)
    go false p false q true r v s e = let i : Three ≡ c = cc in rw (← i) (eqb-true n 3 r)
    go false p false q false r true s e = let i : Four ≡ c = cc in rw (← i) (eqb-true n 4 s)
    go false p false q false r false s e = cc

pub nowhere_named : (n : ℕ) → ((c : Console) → ¬ (n ≡ console_number c)) → console_of n ≡ None
nowhere_named n h = rw (ne_eqb n 1 (h One), ne_eqb n 2 (h Two), ne_eqb n 3 (h Three), ne_eqb n 4 (h Four))

pub same_console : (c e : Console) → console_number c ≡ console_number e → c ≡ e
same_console c e p = let q : Some c ≡ Some e = sym (number_named c) ∙ ap console_of p ∙ number_named e in cc

-- ---- circular order

pub further_further : (m n : ℕ) (c : Console) → further m (further n c) ≡ further (m + n) c
unfolding further
further_further zero n c = rw zero-add
further_further (suc m) n c = rw (suc-add m n) (ap next_to (further_further m n c))

-- console e is so far from c
pub record Way (c e : Console) : Type 0 where
  pub far : ℕ
  pub few : far < 4
  pub there : further far c ≡ e

abbrev way : {c e : Console} (n : ℕ) → n < 4 → further n c ≡ e → Way c e
way n h e = record { far = n; few = h; there = e }

pub way_to : (c e : Console) → Way c e
unfolding further
way_to One One = way 0 (omega arith) refl
way_to One Two = way 1 (omega arith) refl
way_to One Three = way 2 (omega arith) refl
way_to One Four = way 3 (omega arith) refl
way_to Two One = way 3 (omega arith) refl
way_to Two Two = way 0 (omega arith) refl
way_to Two Three = way 1 (omega arith) refl
way_to Two Four = way 2 (omega arith) refl
way_to Three One = way 2 (omega arith) refl
way_to Three Two = way 3 (omega arith) refl
way_to Three Three = way 0 (omega arith) refl
way_to Three Four = way 1 (omega arith) refl
way_to Four One = way 1 (omega arith) refl
way_to Four Two = way 2 (omega arith) refl
way_to Four Three = way 3 (omega arith) refl
way_to Four Four = way 0 (omega arith) refl

-- ---- queues

module _ (c : Console) (ws : List Waiting) (q : Queues) where
  pub queue_own : queue_of c (with_queue c ws q) ≡ ws
  queue_own = go c
    where
      go : (c : Console) → queue_of c (with_queue c ws q) ≡ ws
      go One = refl
      go Two = refl
      go Three = refl
      go Four = refl

  pub turn_stays : (with_queue c ws q).turn ≡ q.turn
  turn_stays = go c
    where
      go : (c : Console) → (with_queue c ws q).turn ≡ q.turn
      go One = refl
      go Two = refl
      go Three = refl
      go Four = refl

pub queue_other : (c e : Console) (ws : List Waiting) (q : Queues) → ¬ (console_number c ≡ console_number e) → queue_of e (with_queue c ws q) ≡ queue_of e q
queue_other One One ws q unlike = absurd (unlike refl)
queue_other One Two ws q unlike = refl
queue_other One Three ws q unlike = refl
queue_other One Four ws q unlike = refl
queue_other Two One ws q unlike = refl
queue_other Two Two ws q unlike = absurd (unlike refl)
queue_other Two Three ws q unlike = refl
queue_other Two Four ws q unlike = refl
queue_other Three One ws q unlike = refl
queue_other Three Two ws q unlike = refl
queue_other Three Three ws q unlike = absurd (unlike refl)
queue_other Three Four ws q unlike = refl
queue_other Four One ws q unlike = refl
queue_other Four Two ws q unlike = refl
queue_other Four Three ws q unlike = refl
queue_other Four Four ws q unlike = absurd (unlike refl)

pub queue_turn : (c e : Console) (q : Queues) → queue_of c (with_turn e q) ≡ queue_of c q
queue_turn One e q = refl
queue_turn Two e q = refl
queue_turn Three e q = refl
queue_turn Four e q = refl
