-- What was read until there was no room, or the input ended, is its front.
use Rattle.std.proofs.Common.{◌≡◌, ℕ, List, ◌++◌, ◌<◌, ◌≤◌, None, Some, IfSome, Option, length, take, sym, ap, ◌∙◌, arith, append-nil, take_at, take_all, ⊎_elim}
use Rattle.std.proofs.lemmas.Bool.{cases_lt}
use Rattle.std.specs.Io.KnownBytes.{Consumes, IsAtEnd}

pub front : (a b : Option (List ℕ)) (bs : List ℕ) (most : ℕ) → length bs ≤ most → Consumes a b bs → (length bs < most → IsAtEnd b) → IfSome a (λ xs. bs ≡ take most xs)
front None b bs most fits consumed ends = tt
front (Some x) None bs most fits consumed ends = absurd consumed
front (Some x) (Some y) bs most fits consumed ends =
    ⊎_elim
    (λ (h : length bs < most). let whole = consumed ∙ ap (λ l. bs ++ l) (ends h) ∙ append-nil bs in sym (ap (take most) whole ∙ take_all most bs fits))
    (λ (h : most ≤ length bs). let same : length bs ≡ most = omega arith in sym (ap (take most) consumed ∙ take_at bs y most same))
    (cases_lt (length bs) most)
