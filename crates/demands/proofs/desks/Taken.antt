-- Which edit a step takes: the oldest of the first console, from the turn on, that has one.
use Prim.Native.Nat.{ℕ, ◌+◌, ◌-◌, ◌<◌}
use mathlib.Core.Path.{◌≡◌, refl, sym, ap, ◌∙◌}
use mathlib.Core.List.{List, [], ◌∷◌}
use Rattle.std.specs.Prelude.{Option, None, Some}
use native.Mathlib.Omega.{arith}
use Rattle.base.specs.Search.{or_else, first}
use Rattle.base.proofs.Search.{or_else_assoc, first_none, first_found, first_at, first_ended}
use Rattle.rules.specs.Desks.{next_to, Queues, queue_of, with_queue, with_turn, Taken, oldest_of, oldest_at, taken}
use Rattle.rules.specs.DeskDemands.{further}
use Rattle.rules.specs.declared.Console.{Console}
use Rattle.rules.specs.declared.Waiting.{Waiting}

-- the oldest edit of console c, where it has one
abbrev pub taken_of : Queues → Console → Waiting → List Waiting → Taken
taken_of q c w ws = record { console = c; waiting = w; queues = with_turn (next_to c) (with_queue c ws q) }

-- ---- from the queues to what is taken

module _ (q : Queues) where
  -- the console m further on from the turn
  abbrev pub at_place : ℕ → Console
  at_place m = further m q.turn

  abbrev found : ℕ → Option Taken
  found n = oldest_at q (at_place (n - 1))

  -- as a search
  taken_first : taken q ≡ first 4 found
  unfolding taken first further
  taken_first =
      let c = q.turn in
      let a = oldest_at q c in
      let b = oldest_at q (next_to c) in
      let d = oldest_at q (next_to (next_to c)) in
      let e = oldest_at q (next_to (next_to (next_to c))) in
      sym (or_else_assoc (or_else a b) d e ∙ or_else_assoc a b (or_else d e))

  pub taken_none : ((c : Console) → queue_of c q ≡ []) → taken q ≡ None
  taken_none empty = taken_first ∙ first_none 4 found (λ k l h. ap (λ (ws : List Waiting). oldest_of (at_place (k - 1)) ws q) (empty (at_place (k - 1))))

  pub taken_at :
      (n : ℕ) (w : Waiting) (ws : List Waiting) → n < 4 → ((m : ℕ) → m < n → queue_of (at_place m) q ≡ []) → queue_of (at_place n) q ≡ w ∷ ws
      → taken q ≡ Some (taken_of q (at_place n) w ws)
  taken_at n w ws few before here =
      let place : n + 1 - 1 ≡ n = omega arith in
      taken_first
      ∙ first_found 4 found (n + 1) (taken_of q (at_place n) w ws) (omega arith) (omega arith)
      (λ j l h. ap (λ (vs : List Waiting). oldest_of (at_place (j - 1)) vs q) (before (j - 1) (omega arith)))
      (ap (λ (m : ℕ). oldest_at q (at_place m)) place ∙ ap (λ (vs : List Waiting). oldest_of (at_place n) vs q) here)

-- ---- and back

-- t is what the console has that is so far from the turn; none waits before it
pub record TakenFrom (q : Queues) (t : Taken) : Type 0 where
  pub far : ℕ
  pub few : far < 4
  pub rest : List Waiting
  pub console : t.console ≡ further far q.turn
  pub queue : queue_of t.console q ≡ t.waiting ∷ rest
  pub queues : t.queues ≡ with_turn (next_to t.console) (with_queue t.console rest q)
  pub before : (m : ℕ) → m < far → queue_of (further m q.turn) q ≡ []

-- of one console
record Oldest (q : Queues) (c : Console) (ws : List Waiting) (t : Taken) : Type 0 where
  rest : List Waiting
  queue : ws ≡ t.waiting ∷ rest
  console : t.console ≡ c
  queues : t.queues ≡ with_turn (next_to c) (with_queue c rest q)

oldest_some : (q : Queues) (c : Console) (ws : List Waiting) (t : Taken) → oldest_of c ws q ≡ Some t → Oldest q c ws t
oldest_some q c [] t e = cc
oldest_some q c (w ∷ ws) t e =
    let same : taken_of q c w ws ≡ t = cc in
    record {
      rest = ws;
      queue = ap (λ (s : Taken). s.waiting ∷ ws) same;
      console = sym (ap (λ (s : Taken). s.console) same);
      queues = sym (ap (λ (s : Taken). s.queues) same);
    }

oldest_none : (q : Queues) (c : Console) (ws : List Waiting) → oldest_of c ws q ≡ None → ws ≡ []
oldest_none q c [] e = refl
oldest_none q c (w ∷ ws) e = cc

pub taken_from : (q : Queues) (t : Taken) → taken q ≡ Some t → TakenFrom q t
taken_from q t e =
    let w = first_ended 4 (found q) t (sym (taken_first q) ∙ e) in
    let c = further (w.at - 1) q.turn in
    let o = oldest_some q c (queue_of c q) t w.found in
    record {
      far = w.at - 1;
      few = omega (arith, w.low, w.high);
      rest = o.rest;
      console = o.console;
      queue = ap (λ (x : Console). queue_of x q) o.console ∙ o.queue;
      queues = o.queues ∙ sym (ap (λ (x : Console). with_turn (next_to x) (with_queue x o.rest q)) o.console);
      before = λ m h.
          let place : m + 1 - 1 ≡ m = omega arith in
          let none_here = rw place at (w.before (m + 1) (omega arith) (omega (arith, h, w.low))) in
          oldest_none q (further m q.turn) (queue_of (further m q.turn) q) none_here;
    }

-- where a console has an edit, one is taken
pub taken_some : {A : Type 0} (q : Queues) (c : Console) (n : ℕ) → n < 4 → further n q.turn ≡ c → ¬ (queue_of c q ≡ []) → taken q ≡ None → A
taken_some q c n few there some-wait e =
    let place : n + 1 - 1 ≡ n = omega arith in
    let none_here = rw (place, there) at (first_at 4 (found q) (sym (taken_first q) ∙ e) (n + 1) (omega arith) (omega arith)) in
    absurd (some-wait (oldest_none q c (queue_of c q) none_here))
