-- A strategy, or nothing in the place of one that is no candidate: its benefit in the table is the same, and it uses no more.
use Prim.Native.Nat.{ℕ, zero, suc, ◌≤◌}
use mathlib.Core.Path.{◌≡◌, refl, ap, sym}
use mathlib.Core.Bool.{Bool, true, false}
use mathlib.Core.Logic.{inl, inr}
use native.Mathlib.Omega.{arith}
use borrow.Author.Tests.{ltb-true, ltb-false}
use lib.Dec.{ltb}
use Rattle.base.specs.Choice.{pick}
use Rattle.rules.specs.Table.{Table}
use Rattle.laws.specs.Tables.{FitAlone, Allowed}

abbrev pub cleaned : Table → ℕ → ℕ → ℕ
cleaned t i j = pick (ltb 0 (t.benefit i j)) j 0

module _ (t : Table) (fit : FitAlone t) (i j : ℕ) (l : 1 ≤ i) (h : i ≤ t.segments) where
  pub by_test : (P : ℕ → Type 0) → (1 ≤ t.benefit i j → P j) → (t.benefit i j ≡ 0 → P 0) → P (cleaned t i j)
  by_test P taken left = go (ltb 0 (t.benefit i j)) refl
    where
      go : (x : Bool) → ltb 0 (t.benefit i j) ≡ x → P (pick x j 0)
      go true e = taken (ltb-true 0 (t.benefit i j) e)
      go false e = left (omega (arith, ltb-false 0 (t.benefit i j) e))

  pub cleaned_benefit : t.benefit i (cleaned t i j) ≡ t.benefit i j
  cleaned_benefit = by_test (λ a. t.benefit i a ≡ t.benefit i j) (λ worth. refl) (λ z. omega (arith, fit.nothing_worth i l h))

  pub cleaned_usage : (r : ℕ) → 1 ≤ r → r ≤ t.resources → t.usage i (cleaned t i j) r ≤ t.usage i j r
  cleaned_usage r lr hr = by_test (λ a. t.usage i a r ≤ t.usage i j r) (λ worth. omega arith) (λ z. omega (arith, fit.nothing_uses i r l h lr hr))

  pub cleaned_allowed : j ≤ t.strategies → Allowed t i (cleaned t i j)
  cleaned_allowed s = by_test (Allowed t i) (λ worth. inr (some_j j refl worth, s, worth)) (λ z. inl refl)
    where
      some_j : (a : ℕ) → j ≡ a → 1 ≤ t.benefit i j → 1 ≤ a
      some_j zero e worth = absurd (omega (arith, fit.nothing_worth i l h, ap (t.benefit i) e))
      some_j (suc a) e worth = omega arith

  pub cleaned_same : Allowed t i j → cleaned t i j ≡ j
  cleaned_same (inl z) = by_test (λ a. a ≡ j) (λ worth. refl) (λ none. sym z)
  cleaned_same (inr ok) = by_test (λ a. a ≡ j) (λ worth. refl) (λ none. absurd (omega arith))
