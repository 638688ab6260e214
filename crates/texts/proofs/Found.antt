-- The place that the library's `position` finds.
use Rattle.std.proofs.Common.{ℕ, ◌≡◌, Bool, not, List, length, unwrap_or, position, arith}
use Rattle.std.specs.List.{position_or_len}
use Rattle.std.proofs.lemmas.List.Sums.{prefix_len-le-length}

pub before_is : (test : ℕ → Bool) (bs : List ℕ) → unwrap_or (position test bs) (length bs) ≡ position_or_len test bs
before_is test bs = grind (arith, prefix_len-le-length (λ x. not (test x)) bs)
