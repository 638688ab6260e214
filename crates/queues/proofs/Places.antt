-- Eight places of which the first are taken: one joins behind the last.
use Rattle.std.proofs.Common.{ℕ, zero, suc, ◌≡◌, ◌+◌, ◌<◌, List, [], ◌∷◌, ◌++◌, length, ap, add-one, arith}
use lib.ListN.{take, set}
use lib.Seq.{take-suc-set}

-- as many as are taken of the places there are
taken_of : {A : Type 0} (xs : List A) (count n : ℕ) → n ≡ length (take count xs) → take count xs ≡ take n xs
taken_of xs zero n e = rw e
taken_of [] (suc count) n e = rw e
taken_of (x ∷ xs) (suc count) zero e = absurd (omega arith)
taken_of (x ∷ xs) (suc count) (suc n) e = ap (λ (l : List _). x ∷ l) (taken_of xs count n (omega arith))

pub joined : {A : Type 0} (xs : List A) (count n : ℕ) (a : A) → n ≡ length (take count xs) → n < length xs → take (n + 1) (set xs n a) ≡ take count xs ++ (a ∷ [])
joined xs count n a e free = rw (add-one, take-suc-set xs n a free, taken_of xs count n e)
