-- A list cut into rows of a number for each resource.
use Prim.Native.Nat.{ℕ, zero, suc, ◌+◌, ◌*◌, ◌/◌, ◌<◌}
use mathlib.Core.Path.{◌≡◌, refl, ◌∙◌}
use mathlib.Core.List.{List, []}
use native.Mathlib.Omega.{arith}
use lib.ListN.{get_or, length, take, drop}
use lib.Seq.{get_or-take, get_or-drop, drop-drop}
use Rattle.std.specs.Simd.{first_chunks}
use Rattle.rules.specs.District.{most_resources}

chunk_at : (k m : ℕ) (xs : List ℕ) → m < k → get_or (first_chunks most_resources k xs) m [] ≡ take most_resources (drop (most_resources * m) xs)
chunk_at zero m xs h = absurd (omega arith)
chunk_at (suc k) zero xs h = refl
chunk_at (suc k) (suc m) xs h =
    let e : most_resources * suc m ≡ most_resources + most_resources * m = omega arith in
    chunk_at k m (drop most_resources xs) (omega arith) ∙ rw (e, drop-drop (most_resources * m) most_resources xs)

pub chunk_entry : (m r : ℕ) (xs : List ℕ) → m < length xs / most_resources → r < most_resources → get_or (get_or (first_chunks most_resources (length xs / most_resources) xs) m []) r 0 ≡ get_or xs (most_resources * m + r) 0
chunk_entry m r xs h l =
    rw (chunk_at (length xs / most_resources) m xs h) (get_or-take most_resources (drop (most_resources * m) xs) r 0 l ∙ get_or-drop (most_resources * m) xs r 0)
