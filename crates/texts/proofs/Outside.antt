-- The numbers of a record, the first that is out of its range.
use Rattle.std.proofs.Common.{ℕ, zero, suc, ◌+◌, ◌-◌, ◌≤◌, ◌<◌, ◌≡◌, Bool, true, false, List, drop, refl, arith}
use Rattle.base.specs.Choice.{pick}
use Rattle.rules.specs.District.{District}
use Rattle.rules.specs.File.{value}
use Rattle.rules.specs.Format.{field_at, inside, Slot}
use Rattle.texts.specs.Numbers.{shown_in, least, most}
use Rattle.texts.specs.Records.{is_due, due_in, due_before}
use Rattle.texts.specs.Places.{OutOfRange, number_place}

module _ (p : ℕ) (d : District) (s : Slot) (m i : ℕ) (bs : List ℕ) (h : i < m) where
  pub inside_next : inside (field_at d s i) (value (field_at d s i) bs) ≡ true → number_place (m - i) p d s i bs ≡ number_place (m - (i + 1)) p d s (i + 1) (drop (field_at d s i).width bs)
  unfolding number_place
  inside_next e = let more : m - i ≡ suc (m - (i + 1)) = omega arith in rw (more, e) refl

  pub outside_here :
      inside (field_at d s i) (value (field_at d s i) bs) ≡ false
      → number_place (m - i) p d s i bs ≡ OutOfRange p s (due_before d s i + 1) (shown_in (field_at d s i) (value (field_at d s i) bs)) (least (field_at d s i)) (most (field_at d s i))
  unfolding number_place
  outside_here e = let more : m - i ≡ suc (m - (i + 1)) = omega arith in rw (more, e) refl

pub due_few : (d : District) (s : Slot) (m n : ℕ) → due_in m d s n ≤ m
unfolding due_in
due_few d s zero n = omega arith
due_few d s (suc m) n = go (is_due d s n) (due_few d s m (n + 1))
  where
    go : (t : Bool) → due_in m d s (n + 1) ≤ m → pick t 1 0 + due_in m d s (n + 1) ≤ suc m
    go true h = omega arith
    go false h = omega arith
