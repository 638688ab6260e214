-- The points for a window follow from its float sum, taken as whole 1024ths.
use Rattle.std.proofs.Common.{◌≡◌, ℕ, ◌*◌, ◌/◌, ◌<◌, false, length, ◌∙◌, mul-div_cancel, arith, le-leb}
use lib.Ieee.Exact.{HasValue}
use borrow.Author.Tests.{lt-leb}
use Rattle.rules.specs.Answers.{window_empty, answer_of, Accepted, Refused}
use Rattle.rules.specs.Meter.{Heard, window_of, sum_of, mays_points, roughness_refusal, points_unless, roughness_of, points_at}
use Rattle.meter.specs.Window.{Holds}
use Rattle.meter.specs.declared.Window.{Window}
use Rattle.meter.proofs.Windows.{sum_most}

-- ---- of a window

module _ (w : Window) (h : Heard) (H : Holds w h) where
  pub sum_parts : (n : ℕ) → ((a c : ℕ) → 0 < c → HasValue w.sum false a c → a < 512 * c → n ≡ a * 1024 / c) → n ≡ sum_of (window_of h)
  sum_parts n parts =
      parts (sum_of (window_of h)) 1024 (omega arith) H.sum (let q = sum_most 64 h.readings H.below in omega arith)
      ∙ mul-div_cancel (sum_of (window_of h)) (omega arith)

  pub no_points : w.count ≡ 0 → Refused window_empty ≡ roughness_of h
  unfolding roughness_of roughness_refusal points_unless answer_of
  no_points e = rw (lt-leb 1 (length (window_of h)) (let q = H.count in omega arith))

  pub some_points : (w.count ≡ 0 → ⊥) → (p : ℕ) → p ≡ mays_points (window_of h) → Accepted (points_at p w.bits) ≡ roughness_of h
  unfolding roughness_of roughness_refusal points_unless answer_of
  some_points n p e = rw (le-leb 1 (length (window_of h)) (let q = H.count in omega arith)) (let b = H.bits in cc)
