-- An array that is filled with shares holds the table's, and a candidate's are at most 10,000.
use Prim.Native.Nat.{ℕ, zero, suc, ◌+◌, ◌-◌, ◌*◌, ◌/◌, ◌%◌, ◌≤◌, ◌<◌}
use mathlib.Core.Path.{◌≡◌, ap, ap₂, sym, ◌∙◌}
use mathlib.Core.List.{List, ◌++◌}
use native.Mathlib.Nat.{div-zero, div-lt_iff_lt-mul, le-div_iff_mul-le}
use native.Mathlib.Omega.{arith}
use lib.ListN.{get_or, length, get_or-append}
use Rattle.std.specs.Int.{div_ceil}
use Rattle.std.proofs.lemmas.Grind.{div_ceil_times}
use Rattle.base.specs.Over.{divide_up, listed_from}
use Rattle.base.proofs.Listed.{listed_at, listed_length}
use Rattle.rules.specs.Table.{Table}
use Rattle.rules.specs.Ceiling.{down_share}
use Rattle.laws.specs.Tables.{FitAlone}
use Rattle.tables.specs.Arrays.{columns, use_entry, usage_at, limit_at, tables, Bounded, Uses, Cell}
use Rattle.tables.specs.declared.Size.{Size}
use Rattle.tables.proofs.Arrays.{usage_at_lem, limit_at_lem, cell_of}
use Rattle.rules.specs.District.{most_resources}
use Rattle.fill.specs.Filled.{SharesBy}
use Rattle.fill.specs.Lists.{share_by, share_entry}

-- the library's quotient rounded up is the rules'
pub div_ceil_is : (a b : ℕ) → 0 < b → div_ceil a b ≡ divide_up a b
div_ceil_is a b h =
    let bounds = div_ceil_times a b h in
    let high = (div-lt_iff_lt-mul {k = b} {x = a + (b - 1)} {y = div_ceil a b + 1} h).1 (omega arith) in
    let low = (le-div_iff_mul-le {k = b} {x = div_ceil a b} {y = a + (b - 1)} h).1 (omega arith) in
    omega arith

-- ---- an array that is filled at its front, whatever stands behind

module _ (q : ℕ → ℕ → ℕ) (b u l : List ℕ) where
  -- the share at the place of a use
  entry_is : Uses u → (i j r : ℕ) → Cell i j → 1 ≤ r → r ≤ most_resources → share_entry q u l (0 + use_entry i j r) ≡ q (usage_at u i j r * 10_000) (limit_at l r)
  unfolding share_entry
  entry_is uses i j r cell low high =
      let here : 0 + use_entry i j r ≡ use_entry i j r = omega arith in
      let resource : (0 + use_entry i j r) % most_resources ≡ r - 1 = omega arith in
      ap₂ (λ a m. q (a * 10_000) m) (ap (λ n. get_or u n 0) here ∙ usage_at_lem uses i j r cell low high) (ap (λ n. get_or l n 0) resource ∙ sym (limit_at_lem l r low high))

  read : (end : ℕ) (front rest : List ℕ) → front ≡ listed_from end 0 (share_entry q u l) → (n : ℕ) → n < end → get_or (front ++ rest) n 0 ≡ share_entry q u l (0 + n)
  read end front rest e n h =
      let long : length front ≡ end = ap length e ∙ listed_length (share_entry q u l) end 0 in
      get_or-append front rest 0 n (omega (arith, long)) ∙ ap (λ (v : List ℕ). get_or v n 0) e ∙ listed_at end 0 n (share_entry q u l) h

  pub shares_filled : {z : Size} {front : List ℕ} (rest : List ℕ) → Bounded z → Uses u → front ≡ listed_from (most_resources * (columns * z.segments)) 0 (share_entry q u l) → SharesBy (share_by q) (tables z b u l) (front ++ rest)
  shares_filled {z} {front} rest bounded uses e =
      record {
        each = λ i j r low high number from to.
            let cell = cell_of bounded i j low high number in
            read (most_resources * (columns * z.segments)) front rest e (use_entry i j r) (omega (arith, cell.number)) ∙ entry_is uses i j r cell from (omega (arith, bounded.resources));
      }

-- ---- of a candidate

divide_small : (a b : ℕ) → a ≤ b → a * 10_000 / b ≤ 10_000
divide_small a zero h = rw (div-zero (a * 10_000)) (omega arith)
divide_small a (suc b) h =
    let below = (div-lt_iff_lt-mul {k = suc b} {x = a * 10_000} {y = 10_001} (omega arith)).1 (omega arith) in
    omega arith

module _ (t : Table) (fit : FitAlone t) (i j r : ℕ) (li : 1 ≤ i) (hi : i ≤ t.segments) (lj : 1 ≤ j) (hj : j ≤ t.strategies) (lr : 1 ≤ r) (hr : r ≤ t.resources) (worth : 1 ≤ t.benefit i j) where
  pub down_share_le : down_share t i j r ≤ 10_000
  unfolding down_share
  down_share_le = divide_small (t.usage i j r) (t.limit r) (fit.fits i j r li hi lj hj lr hr worth)
