-- What holds of every programme that a search over programmes leads to, where each step gives segments nothing or candidates, or leads to
-- programmes of which it holds.
use Prim.Native.Nat.{ℕ}
use mathlib.Core.Path.{◌≡◌}
use mathlib.Core.List.{List}
use Rattle.std.specs.Prelude.{Option, Some}
use Rattle.base.specs.Search.{run}
use Rattle.base.proofs.Runs.{run_keeps}
use Rattle.rules.specs.Table.{Table}
use Rattle.laws.proofs.Gives.{Gives, gives_self, gives_then}

module _ (t : Table) (next : List ℕ → Option (List ℕ)) (bound : ℕ) (c : List ℕ) where
  pub run_gives : ((s e : List ℕ) → next s ≡ Some e → Gives t s e) → Gives t c (run next bound c).last
  run_gives gives = run_keeps next (Gives t c) (λ s e found g. gives_then t c s e g (gives s e found)) bound c (gives_self t c)

module _ (next : List ℕ → Option (List ℕ)) (bound : ℕ) (c : List ℕ) where
  pub run_leads : (P : List ℕ → Type 0) → ((s e : List ℕ) → next s ≡ Some e → P e) → P c → P (run next bound c).last
  run_leads P leads = run_keeps next P (λ s e found _. leads s e found) bound c
