-- Pruning over arrays: segment by segment, and what a programme keeps in it.
use Prim.Native.Nat.{ℕ, zero, suc, ◌+◌, ◌-◌, ◌≤◌, ◌<◌}
use mathlib.Core.Path.{◌≡◌, refl, sym, ◌∙◌}
use mathlib.Core.Bool.{Bool, true, false}
use mathlib.Core.List.{List, []}
use native.Mathlib.Numerals.{add-one}
use native.Mathlib.Omega.{arith}
use borrow.Author.Tests.{eq-eqb}
use lib.ListN.{get_or, set}
use lib.Seq.{set-get_or}
use Rattle.base.proofs.Sums.{up_to}
use Rattle.rules.specs.Table.{Table}
use Rattle.rules.specs.Phases.{strategy_at, led, pruned, bests, start}
use Rattle.laws.proofs.Gives.{Gives, gives_keeps, allowed_number}
use Rattle.laws.proofs.Leaders.{pruned_gives}
use Rattle.tables.specs.declared.Size.{Size}
use Rattle.tables.specs.Arrays.{tables, leader_in, Chosen}
use Rattle.phase1.specs.Reduce.{LedWithin}

module _ (leader : ℕ → ℕ) where
  pub pruned_none : (c : List ℕ) → c ≡ pruned leader 0 c
  unfolding pruned
  pruned_none c = refl

  -- a turn: e is what the first n segments leave
  module _ (n : ℕ) (c : List ℕ) {e : List ℕ} (is : e ≡ pruned leader n c) where
    -- segment n + 1 may have what it has, or may not, or has nothing
    pub pruned_led : led leader (strategy_at e) (n + 1) ≡ true → e ≡ pruned leader (n + 1) c
    unfolding pruned
    pruned_led ok = let here = rw add-one at ok in rw (add-one, ← is, here)

    pub pruned_unled : led leader (strategy_at e) (n + 1) ≡ false → set e n 0 ≡ pruned leader (n + 1) c
    unfolding pruned
    pruned_unled fails =
        let here = rw add-one at fails in
        let at : suc n - 1 ≡ n = omega arith in
        rw (add-one, ← is, here, at)

    pub pruned_nothing : get_or e n 0 ≤ 0 → e ≡ pruned leader (n + 1) c
    pruned_nothing none = go (led leader (strategy_at e) (n + 1)) refl
      where
        go : (x : Bool) → led leader (strategy_at e) (n + 1) ≡ x → e ≡ pruned leader (n + 1) c
        go true ok = pruned_led ok
        go false fails =
            let nothing : get_or e n 0 ≡ 0 = omega arith in
            sym (rw nothing at (set-get_or e n 0)) ∙ pruned_unled fails

  -- a segment without a leader keeps what it has
  free_kept : (n : ℕ) (c : List ℕ) → leader (n + 1) ≡ 0 → pruned leader n c ≡ pruned leader (n + 1) c
  unfolding led
  free_kept n c free = pruned_led n c refl (rw (eq-eqb (leader (n + 1)) 0 free))

-- ---- up to the last segment that has a leader

module _ (ls : List ℕ) where
  -- none from segment m + 1 to n has one
  pub led_past : (n m : ℕ) → m ≤ n → ((k : ℕ) → m ≤ k → k < n → get_or ls k 0 ≤ 0) → LedWithin ls n m
  led_past zero m few free = let none : m ≡ 0 = omega arith in rw none (record { few = omega arith; same = λ c. refl })
  led_past (suc n) m few free = up_to few (λ all. rw all (record { few = omega arith; same = λ c. refl }))
      (λ less.
      let before = led_past n m less (λ k lk hk. free k lk (omega arith)) in
      let at : suc n - 1 ≡ n = omega arith in
      let none : leader_in ls (suc n) ≡ 0 = rw at (omega (arith, free n less (omega arith))) in
      record { few = few; same = λ c. before.same c ∙ rw add-one at (free_kept (leader_in ls) n c (rw (← add-one) at none)) })

-- ---- the start, and strategy numbers that stay those of the table

pub gives_chosen : (z : Size) (b u l c e : List ℕ) → Gives (tables z b u l) c e → Chosen z c → Chosen z e
gives_chosen z b u l c e g chosen = record { places = g.places ∙ chosen.places; numbers = at }
  where
    some_at : (i : ℕ) → 1 ≤ i → strategy_at e i ≤ z.strategies
    some_at = gives_keeps (tables z b u l) (λ i j. j ≤ z.strategies) (λ i j h ok. allowed_number (tables z b u l) i j ok) c e g (λ i l. chosen.numbers i)

    at : (i : ℕ) → strategy_at e i ≤ z.strategies
    at zero = some_at 1 (omega arith)
    at (suc i) = some_at (suc i) (omega arith)

pub pruned_chosen : (leader : ℕ → ℕ) {z : Size} {c e : List ℕ} → Chosen z c → e ≡ pruned leader z.segments c → Chosen z e
pruned_chosen leader {z} {c} chosen is =
    rw is
    (gives_chosen z [] [] [] c (pruned leader z.segments c) (pruned_gives leader (tables z [] [] []) z.segments c (omega arith)) chosen)

pub start_is : (t : Table) (leader : ℕ → ℕ) {c e : List ℕ} → c ≡ bests t → e ≡ pruned leader t.segments c → e ≡ start t leader
unfolding start
start_is t leader tops is = rw tops at is
