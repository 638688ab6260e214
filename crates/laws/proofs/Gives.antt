-- From one programme to another by giving segments nothing or candidates.
use Prim.Native.Nat.{ℕ, ◌-◌, ◌≤◌, ◌<◌}
use mathlib.Core.Path.{◌≡◌, refl, ◌∙◌}
use mathlib.Core.Bool.{Bool, true, false}
use mathlib.Core.List.{List}
use mathlib.Core.Logic.{◌⊎◌, inl, inr, ⊎_elim}
use native.Mathlib.Omega.{arith}
use borrow.Author.Tests.{ltb-true, ltb-false, eqb-true, eqb-false}
use lib.Dec.{ltb, eqb}
use lib.ListN.{length, length-set}
use lib.Seq.{set_out}
use Rattle.rules.specs.Table.{Table}
use Rattle.rules.specs.Phases.{strategy_at, give}
use Rattle.laws.specs.Tables.{Allowed, OfCandidates}
use Rattle.laws.proofs.Give.{given, kept}

module _ (t : Table) where
  -- place k keeps its strategy, or is a segment's and gets one that is allowed
  abbrev pub KeepsOrGets : List ℕ → List ℕ → ℕ → Type 0
  KeepsOrGets c e k = (strategy_at e k ≡ strategy_at c k) ⊎ ((k ≤ t.segments) × Allowed t k (strategy_at e k))

  pub record Gives (c e : List ℕ) : Type 0 where
    pub places : length e ≡ length c
    pub each : (k : ℕ) → 1 ≤ k → KeepsOrGets c e k

  pub gives_self : (c : List ℕ) → Gives c c
  gives_self c = record { places = refl; each = λ k l. inl refl }

  pub give_gives : (c : List ℕ) (i j : ℕ) → 1 ≤ i → i ≤ t.segments → Allowed t i j → Gives c (give c i j)
  give_gives c i j l h ok = record { places = length-set c (i - 1) j; each = λ k m. each k m (eqb k i) refl (ltb (i - 1) (length c)) refl }
    where
      each : (k : ℕ) → 1 ≤ k → (x : Bool) → eqb k i ≡ x → (y : Bool) → ltb (i - 1) (length c) ≡ y → KeepsOrGets c (give c i j) k
      each k m false e y f = inl (kept c i j k l m (eqb-false k i e))
      each k m true e true f =
          let room = ltb-true (i - 1) (length c) f in
          inr (rw (eqb-true k i e, given c i j l (omega arith)) (h, ok))
      each k m true e false f = inl (rw (set_out c (i - 1) j (ltb-false (i - 1) (length c) f)))

  pub gives_then : (c e f : List ℕ) → Gives c e → Gives e f → Gives c f
  gives_then c e f g h = record { places = h.places ∙ g.places; each = λ k l. each k (g.each k l) (h.each k l) }
    where
      each : (k : ℕ) → KeepsOrGets c e k → KeepsOrGets e f k → KeepsOrGets c f k
      each k x (inr ok) = inr ok
      each k (inl old) (inl same) = inl (same ∙ old)
      each k (inr ok) (inl same) = inr (rw same ok)

  -- what holds at each place, and of all that it may get, still holds
  pub gives_keeps :
      (Q : ℕ → ℕ → Type 0) → ((i j : ℕ) → i ≤ t.segments → Allowed t i j → Q i j) → (c e : List ℕ) → Gives c e
      → ((i : ℕ) → 1 ≤ i → Q i (strategy_at c i)) → (i : ℕ) → 1 ≤ i → Q i (strategy_at e i)
  gives_keeps Q new c e g held i l = ⊎_elim (λ same. rw same (held i l)) (λ ok. new i (strategy_at e i) ok.0 ok.1) (g.each i l)

  pub gives_candidates : (c e : List ℕ) → Gives c e → OfCandidates t c → OfCandidates t e
  gives_candidates c e g o =
      record { places = g.places ∙ o.places; each = gives_keeps (λ i j. i ≤ t.segments → Allowed t i j) (λ i j h ok _. ok) c e g o.each }

  -- every segment's strategy is one of the table
  abbrev pub Numbers : List ℕ → Type 0
  Numbers c = (i : ℕ) → 1 ≤ i → i ≤ t.segments → strategy_at c i ≤ t.strategies

  pub allowed_number : (i j : ℕ) → Allowed t i j → j ≤ t.strategies
  allowed_number i j (inl z) = omega arith
  allowed_number i j (inr ok) = ok.1

  pub gives_numbers : (c e : List ℕ) → Gives c e → Numbers c → Numbers e
  gives_numbers c e g n = gives_keeps (λ i j. i ≤ t.segments → j ≤ t.strategies) (λ i j h ok _. allowed_number i j ok) c e g n

  pub candidates_numbers : (c : List ℕ) → OfCandidates t c → Numbers c
  candidates_numbers c o i l h = allowed_number i (strategy_at c i) (o.each i l h)

  -- places past the segments hold nothing
  abbrev pub PastNothing : List ℕ → Type 0
  PastNothing c = (i : ℕ) → 1 ≤ i → t.segments < i → strategy_at c i ≡ 0

  pub gives_past : (c e : List ℕ) → Gives c e → PastNothing c → PastNothing e
  gives_past c e g p = gives_keeps (λ i j. t.segments < i → j ≡ 0) (λ i j h ok past. absurd (omega arith)) c e g p
