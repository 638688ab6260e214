-- What a choice of blocks that can be followed says: its blocks stand in order and cover the district, and their parts are within the limits. A choice
-- of no blocks, and any choice for a district without segments, is not one.
use Prim.Native.Nat.{ℕ, zero, suc, ◌+◌, ◌-◌, ◌*◌, ◌≤◌, ◌<◌}
use mathlib.Core.Path.{◌≡◌}
use mathlib.Core.Bool.{true, false, ◌&&◌, and-false}
use native.Mathlib.Nat.{zero-div}
use native.Mathlib.Omega.{arith}
use borrow.Author.Tests.{leb-true, eqb-true}
use lib.Dec.{leb, eqb}
use Rattle.std.proofs.lemmas.Bool.{and_parts, false_from_ne_true}
use Rattle.base.specs.Choice.{pick}
use Rattle.base.specs.Over.{sum, all, between}
use Rattle.base.proofs.All.{all_at}
use Rattle.base.proofs.Choice.{between_in, pick_all}
use Rattle.base.proofs.Sums.{sum_part}
use Rattle.rules.specs.District.{District, segments_of, resources_of, limit_of, leader_of, all_bars, with_limit, with_bars}
use Rattle.rules.specs.File.{in_range}
use Rattle.rules.specs.Table.{table_of}
use Rattle.rules.specs.Plan.{reduced, programme_of, no_programme}
use Rattle.rules.specs.Blocks.{choice_of, no_blocks, blocks_in, first_of, last_of, part_of, in_block, end_of, is_row, in_order, covering, part_in, parts_fit, leaders_inside, followed, with_parts, barred_outside, block_district, by_blocks, begun, programme_by, plan_by}
use Rattle.rules.specs.declared.Choice.{Choice}

pub row_few : (x : Choice) (d : District) → is_row x d ≡ true → (1 ≤ blocks_in x d) × (blocks_in x d ≤ 4)
unfolding is_row
row_few x d ok =
    let m = blocks_in x d in
    let p = and_parts (eqb ((2 + resources_of d) * m) x.length) (between 1 4 m) ok in between_in 1 4 m p.1

module _ (x : Choice) (d : District) (ok : followed x d ≡ true) where
  abbrev m : ℕ
  m = blocks_in x d

  pub tests : (is_row x d ≡ true) × (covering x d ≡ true) × (all (resources_of d) (parts_fit x d) ≡ true) × (all m (leaders_inside x d) ≡ true)
  unfolding followed
  tests =
      let p = and_parts (is_row x d) (covering x d && (all (resources_of d) (parts_fit x d) && all m (leaders_inside x d))) ok in
      let q = and_parts (covering x d) (all (resources_of d) (parts_fit x d) && all m (leaders_inside x d)) p.1 in
      let r = and_parts (all (resources_of d) (parts_fit x d)) (all m (leaders_inside x d)) q.1 in
      (p.0, q.0, r.0, r.1)

  pub blocks_few : (1 ≤ m) × (m ≤ 4)
  blocks_few = row_few x d tests.0

  covers : (all m (in_order x d) ≡ true) × (eqb (end_of x d m) (segments_of d) ≡ true)
  unfolding covering
  covers = and_parts (all m (in_order x d)) (eqb (end_of x d m) (segments_of d)) tests.1

  pub end_all : end_of x d m ≡ segments_of d
  end_all = eqb-true (end_of x d m) (segments_of d) covers.1

  -- a block begins behind the one before it, and is not empty
  pub order : (b : ℕ) → suc b ≤ m → (first_of x d (suc b) ≤ last_of x d (suc b)) × (first_of x d (suc b) ≡ end_of x d b + 1)
  unfolding in_order
  order b h =
      let z : suc b - 1 ≡ b = omega arith in
      let p = and_parts (leb (first_of x d (suc b)) (last_of x d (suc b))) (eqb (first_of x d (suc b)) (end_of x d (suc b - 1) + 1)) (all_at m (in_order x d) covers.0 (suc b) (omega arith) h) in
      (leb-true (first_of x d (suc b)) (last_of x d (suc b)) p.0, rw z at (eqb-true (first_of x d (suc b)) (end_of x d (suc b - 1) + 1) p.1))

  pub end_more : (b : ℕ) → suc b ≤ m → end_of x d b < end_of x d (suc b)
  unfolding end_of
  end_more b h = omega (arith, order b h)

  end_mono : (k b : ℕ) → b + k ≤ m → end_of x d b ≤ end_of x d (b + k)
  end_mono zero b h = let z : b + 0 ≡ b = omega arith in rw z (omega arith)
  end_mono (suc k) b h =
      let z : b + suc k ≡ suc (b + k) = omega arith in
      rw z (omega (arith, end_mono k b (omega arith), end_more (b + k) (omega arith)))

  pub end_le : (b : ℕ) → b ≤ m → end_of x d b ≤ segments_of d
  end_le b h =
      let z : b + (m - b) ≡ m = omega arith in
      omega (arith, rw z at (end_mono (m - b) b (omega arith)), end_all)

  pub in_from : (b i : ℕ) → suc b ≤ m → in_block x d (suc b) i ≡ true → (end_of x d b < i) × (i ≤ end_of x d (suc b))
  unfolding in_block end_of
  in_from b i h e = let p = between_in (first_of x d (suc b)) (last_of x d (suc b)) i e in (omega (arith, p.0, (order b h).1), p.1)

  -- segments of other blocks are not in it
  pub out_low : (b i : ℕ) → suc b ≤ m → i ≤ end_of x d b → in_block x d (suc b) i ≡ false
  out_low b i h l = false_from_ne_true (in_block x d (suc b) i) (λ q. omega (arith, (in_from b i h q).0))

  pub out_high : (b i : ℕ) → suc b ≤ m → end_of x d (suc b) < i → in_block x d (suc b) i ≡ false
  out_high b i h l = false_from_ne_true (in_block x d (suc b) i) (λ q. omega (arith, (in_from b i h q).1))

  -- no part is above its limit
  pub parts_le : (r : ℕ) → 1 ≤ r → r ≤ resources_of d → sum m (part_in x d r) ≤ limit_of d r
  unfolding parts_fit
  parts_le r l h = leb-true (sum m (part_in x d r)) (limit_of d r) (all_at (resources_of d) (parts_fit x d) tests.2 r l h)

  pub part_le : (b : ℕ) → 1 ≤ b → b ≤ m → (r : ℕ) → 1 ≤ r → r ≤ resources_of d → part_of x d b r ≤ limit_of d r
  unfolding part_in
  part_le b lb hb r l h = omega (arith, sum_part m (part_in x d r) b lb hb, parts_le r l h)

-- ---- the district of a block

module _ (x : Choice) (d : District) (b : ℕ) (P : District → Type 0) where
  -- what holds of the whole district, and stays with each new limit and with the bars of each segment, holds of the block's
  pub parts_all :
      P d → (n : ℕ) → ((r : ℕ) → 1 ≤ r → r ≤ n → (e : District) → P e → P (with_limit e r (part_of x d b r))) → P (with_parts x d b n)
  unfolding with_parts
  parts_all whole zero limited = whole
  parts_all whole (suc n) limited =
      limited (suc n) (omega arith) (omega arith) (with_parts x d b n) (parts_all whole n (λ r l h. limited r l (omega arith)))

  pub outside_all :
      P (with_parts x d b (resources_of d)) → (n : ℕ) → ((i : ℕ) → 1 ≤ i → i ≤ n → (e : District) → P e → P (with_bars e i (all_bars d)))
      → P (barred_outside x d b n)
  unfolding barred_outside
  outside_all parts zero barred = parts
  outside_all parts (suc n) barred =
      let e = barred_outside x d b n in
      let before = outside_all parts n (λ i l h. barred i l (omega arith)) in
      pick_all P (in_block x d b (suc n)) e (with_bars e (suc n) (all_bars d)) before (barred (suc n) (omega arith) (omega arith) e before)

  pub block_all :
      P d → ((r : ℕ) → 1 ≤ r → r ≤ resources_of d → (e : District) → P e → P (with_limit e r (part_of x d b r)))
      → ((i : ℕ) → 1 ≤ i → i ≤ segments_of d → (e : District) → P e → P (with_bars e i (all_bars d))) → P (block_district x d b)
  unfolding block_district
  block_all whole limited barred = outside_all (parts_all whole (resources_of d) limited) (segments_of d) barred

-- ---- which run phases 2 and 3 go on from

module _ (x : Choice) (d : District) where
  pub begun_by : followed x d ≡ true → begun x d ≡ by_blocks x d
  unfolding begun
  begun_by ok = rw ok

  pub begun_ordinary : followed x d ≡ false → begun x d ≡ reduced (table_of d) (leader_of d)
  unfolding begun
  begun_ordinary out = rw out

  -- so that is the ordinary plan
  pub plan_ordinary : followed x d ≡ false → plan_by x d ≡ pick (in_range d) (programme_of (table_of d) (leader_of d)) no_programme
  unfolding plan_by programme_by programme_of
  plan_ordinary out = rw (begun_ordinary out)

-- ---- choices that are not followed

pub none_followed : (d : District) → followed no_blocks d ≡ false
unfolding followed is_row blocks_in choice_of no_blocks
none_followed d = rw (zero-div (2 + resources_of d), and-false)

pub empty_followed : (x : Choice) (d : District) → segments_of d ≡ 0 → followed x d ≡ false
empty_followed x d e =
    false_from_ne_true (followed x d)
    (λ q.
    let m = blocks_in x d in
    let n = blocks_few x d q in
    let z : suc (m - 1) ≡ m = omega (arith, n) in
    omega (arith, rw z at (end_more x d q (m - 1) (omega (arith, n))), end_all x d q))
