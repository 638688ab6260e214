-- Stored blocks: no two are equal, by a test that is computed, and the map makes Table 1 of them.
use Prim.Native.Nat.{ℕ, ◌+◌, ◌-◌, ◌<◌}
use mathlib.Core.Path.{◌≡◌, ap, sym, ◌∙◌}
use mathlib.Core.Bool.{Bool, true, not}
use mathlib.Core.List.{List, [], map}
use native.Mathlib.Omega.{arith}
use borrow.Author.Tests.{eqb-false, not-true}
use lib.Dec.{eqb}
use lib.ListN.{length, get_or}
use Rattle.std.proofs.lemmas.List.{get_or-map}
use Rattle.base.specs.Bytes.{number_of}
use Rattle.base.specs.Over.{all}
use Rattle.base.proofs.All.{all_at}
use Rattle.rules.specs.Survey.{deduct_points}
use Rattle.survey.specs.Blocks.{Distinct, stored_as, table_from}

-- a test that passes at each number below n
abbrev pub below : ℕ → (ℕ → Bool) → Bool
below n f = all n (λ k. f (k - 1))

below_at : (n : ℕ) (f : ℕ → Bool) → below n f ≡ true → (k : ℕ) → k < n → f k ≡ true
below_at n f e k l =
    let last : k + 1 - 1 ≡ k = omega arith in
    rw last at (all_at n (λ k. f (k - 1)) e (k + 1) (omega arith) (omega arith))

-- a number that equal blocks share
abbrev pub key_of : List (List ℕ) → ℕ
key_of block = number_of (map number_of block)

abbrev pub differ : List (List (List ℕ)) → ℕ → ℕ → Bool
differ blocks n m = not (eqb (key_of (get_or blocks m [])) (key_of (get_or blocks n [])))

-- each block has another number than those before it
abbrev pub apart : List (List (List ℕ)) → Bool
apart blocks = below (length blocks) (λ n. below n (differ blocks n))

pub apart_distinct : (blocks : List (List (List ℕ))) → apart blocks ≡ true → Distinct blocks
unfolding Distinct
apart_distinct blocks e m n l h q =
    eqb-false (key_of (get_or blocks m [])) (key_of (get_or blocks n []))
    (not-true _ (below_at n (differ blocks n) (below_at (length blocks) (λ n. below n (differ blocks n)) e n h) m l))
    (ap key_of q)

-- a block of Table 1 is the stored one that the map names
stored_block :
    (blocks : List (List (List ℕ))) → table_from blocks ≡ deduct_points → (n : ℕ) → n < 12
    → get_or blocks (get_or stored_as n 0) [] ≡ get_or deduct_points n []
unfolding stored_as table_from
stored_block blocks e n l = sym (get_or-map (λ k. get_or blocks k []) stored_as n 0 [] l) ∙ ap (λ (t : List (List (List ℕ))). get_or t n []) e

-- so an entry of the one is the entry of the other
pub stored_entry :
    (blocks : List (List (List ℕ))) → table_from blocks ≡ deduct_points → (n at row column : ℕ) → n < 12 → at ≡ get_or stored_as n 0
    → get_or (get_or (get_or blocks at []) row []) column 0 ≡ get_or (get_or (get_or deduct_points n []) row []) column 0
stored_entry blocks e n at row column l a = rw (a, stored_block blocks e n l)
