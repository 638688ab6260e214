-- No field is larger than that of a district with every count and every greatest rating at its greatest, by any size that grows with the
-- field's greatest number.
use Prim.Native.Nat.{ℕ, ◌+◌, ◌-◌, ◌^◌, ◌≤◌, ◌<◌, min}
use mathlib.Core.Path.{◌≡◌, refl, ◌∙◌}
use mathlib.Core.Bool.{Bool, true, false}
use mathlib.Core.List.{◌++◌}
use native.Mathlib.Omega.{arith}
use lib.Dec.{ltb}
use lib.ListN.{replicate}
use lib.Pow.{pow_mono}
use lib.Seq.{get_or-append-add}
use borrow.Author.Tests.{ltb-true, lt-ltb}
use Rattle.std.proofs.lemmas.List.{get_or-replicate}
use Rattle.base.specs.Choice.{pick}
use Rattle.rules.specs.District.{District, most_distresses, most_resources, count_places, strategies_at, ratings_at, greatest_place, strategies_of, distresses_of, greatest_of}
use Rattle.rules.specs.Format.{leader_form, number, absent, present, rating_field, kind_field, field_at, most_counts, Slot}
use Rattle.rules.specs.declared.Field.{Field}
use Rattle.grammar.proofs.InRange.{InRange}
use Rattle.grammar.proofs.InRanges.{segments, strategies, years, distresses, pavements, resources, greatest}

unfoldable pub widest : District
widest = most_counts ++ replicate (strategies_at - count_places) 50

rating_widest : (n : ℕ) → n < most_distresses → greatest_of widest (n + 1) ≡ 50
unfolding widest greatest_of
rating_widest n h =
    let e : greatest_place (n + 1) ≡ count_places + (most_resources + n) = omega arith in
    rw e (get_or-append-add most_counts (replicate (strategies_at - count_places) 50) (most_resources + n) 0 ∙ get_or-replicate (strategies_at - count_places) (most_resources + n) 50 0 (omega arith))

-- a field is no larger than another; a test passes only where another does
record Le (size : Field → ℕ) (f g : Field) : Type 0 where
  le : size f ≤ size g

record Imp (a b : Bool) : Type 0 where
  imp : a ≡ true → b ≡ true

le_refl : (size : Field → ℕ) (f : Field) → Le size f f
le_refl size f = record { le = omega arith }

le_same : (size : Field → ℕ) (t : Bool) (a b a' b' : Field) → Le size a a' → Le size b b' → Le size (pick t a b) (pick t a' b')
le_same size true a b a' b' h k = h
le_same size false a b a' b' h k = k

imp_refl : (t : Bool) → Imp t t
imp_refl t = record { imp = λ e. e }

imp_ltb : (i m n : ℕ) → m ≤ n → Imp (ltb i m) (ltb i n)
imp_ltb i m n h = record { imp = λ e. lt-ltb i n (omega (arith, ltb-true i m e)) }

imp_same : (t a b a' b' : Bool) → Imp a a' → Imp b b' → Imp (pick t a b) (pick t a' b')
imp_same true a b a' b' h k = h
imp_same false a b a' b' h k = k

ruleset mono = (le_refl, le_same, imp_refl, imp_ltb, imp_same)

module _ (d : District) (ok : InRange leader_form d) where
  present_imp : (s : Slot) → Imp (present d s) (present widest s)
  unfolding widest
  present_imp s =
      let N = (segments d ok).1 in
      let S = (strategies d ok).1 in
      let Y = (pavements d ok).1 in
      search mono depth 20

  pub present_top : (s : Slot) → present d s ≡ true → present widest s ≡ true
  present_top s = (present_imp s).imp

  module _ (size : Field → ℕ) (none : size absent ≡ 0) (grows : (w lo hi top : ℕ) → hi ≤ top → size (number w lo hi) ≤ size (number w lo top)) where
    le_number : (w lo hi top : ℕ) → hi ≤ top → Le size (number w lo hi) (number w lo top)
    le_number w lo hi top h = record { le = grows w lo hi top h }

    le_by : (t t' : Bool) (x x' : Field) → Imp t t' → (t ≡ true → Le size x x') → Le size (pick t x absent) (pick t' x' absent)
    le_by true true x x' i h = h refl
    le_by true false x x' i h = absurd (cc (i.imp refl))
    le_by false t' x x' i h = record { le = omega (arith, none) }

    le_imp : (t t' : Bool) (x x' : Field) → Imp t t' → Le size x x' → Le size (pick t x absent) (pick t' x' absent)
    le_imp t t' x x' i h = le_by t t' x x' i (λ e. h)

    rating_top : (n : ℕ) → Le size (rating_field d n) (rating_field widest n)
    unfolding widest
    rating_top n =
        let D = (distresses d ok).1 in
        le_by (ltb n (distresses_of d)) (ltb n most_distresses) _ _ (imp_ltb n (distresses_of d) most_distresses D)
        (λ e. let l = ltb-true n (distresses_of d) e in le_number 1 0 _ _ (omega (arith, greatest d ok (n + 1) (omega arith) (omega arith), rating_widest n (omega arith))))

    kind_top : (s : Slot) (n : ℕ) → Le size (kind_field d s n) (kind_field widest s n)
    unfolding widest
    kind_top s n =
        let T = (years d ok).1 in
        let D = (distresses d ok).1 in
        let Y = (pavements d ok).1 in
        let R = (resources d ok).1 in
        let bars : 2 ^ min (strategies_of d) 16 - 1 ≤ 2 ^ 11 - 1 = omega (arith, pow_mono {i = min (strategies_of d) 16} {j = 11} (omega (arith, (strategies d ok).1))) in
        let rating = rating_top (n - ratings_at) in
        search (mono, le_number, le_imp) depth 30

    pub field_top : (s : Slot) (n : ℕ) → size (field_at d s n) ≤ size (field_at widest s n)
    unfolding field_at
    field_top s n = (le_imp (present d s) (present widest s) (kind_field d s n) (kind_field widest s n) (present_imp s) (kind_top s n)).le
