-- Phase 2 ends because no segment can be picked up, after at most a pick-up for each segment; the total has not fallen, and leaders are
-- respected as before.
use Prim.Native.Nat.{ℕ, ◌≤◌}
use mathlib.Core.Path.{◌≡◌}
use mathlib.Core.Bool.{true}
use mathlib.Core.List.{List}
use Rattle.std.specs.Prelude.{None, Some}
use native.Mathlib.Omega.{arith}
use Rattle.base.proofs.Runs.{run_ends, run_keeps}
use Rattle.rules.specs.Table.{Table}
use Rattle.rules.specs.Phases.{total, within, respects, pick_up, phase2}
use Rattle.laws.specs.Tables.{FitAlone}
use Rattle.laws.proofs.Gives.{Gives}
use Rattle.laws.proofs.PickUps.{Room, vacancies, vacancies_le, pick_up_holds, pick_up_gives, pick_up_respects, pick_up_rises, pick_up_falls}
use Rattle.theorems.proofs.Searches.{run_gives, run_leads}

module _ (t : Table) (leader : ℕ → ℕ) (c : List ℕ) where
  pub phase2_gives : Gives t c (phase2 t leader c).last
  unfolding phase2
  phase2_gives = run_gives t (pick_up t leader) t.segments c (pick_up_gives t leader)

  pub phase2_within : within t c ≡ true → within t (phase2 t leader c).last ≡ true
  unfolding phase2
  phase2_within = run_leads (pick_up t leader) t.segments c (λ s. within t s ≡ true) (pick_up_holds t leader)

  keeps_room : (s e : List ℕ) → pick_up t leader s ≡ Some e → Room t s → Room t e
  keeps_room s e found room = omega (arith, (pick_up_gives t leader s e found).places)

  pub phase2_ends : Room t c → pick_up t leader (phase2 t leader c).last ≡ None
  unfolding phase2
  phase2_ends room = run_ends (pick_up t leader) (Room t) keeps_room (vacancies t) (pick_up_falls t leader) t.segments c room (vacancies_le t c)

  pub phase2_respects : Room t c → respects leader t.segments c ≡ true → respects leader t.segments (phase2 t leader c).last ≡ true
  unfolding phase2
  phase2_respects room before =
      (run_keeps (pick_up t leader) (λ s. Room t s × (respects leader t.segments s ≡ true))
      (λ s e found h. (keeps_room s e found h.0, pick_up_respects t leader s e found h.0 h.1))
      t.segments c (room, before)).1

  pub phase2_rises : FitAlone t → Room t c → total t c ≤ total t (phase2 t leader c).last
  unfolding phase2
  phase2_rises fit room =
      (run_keeps (pick_up t leader) (λ s. Room t s × (total t c ≤ total t s))
      (λ s e found h. (keeps_room s e found h.0, omega (arith, pick_up_rises t leader fit.nothing_worth s e found h.0, h.1)))
      t.segments c (room, omega arith)).1
