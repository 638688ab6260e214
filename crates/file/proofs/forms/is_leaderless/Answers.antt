-- `is_leaderless` meets its contract: no segment has a leader, or some segment has one.
use Rattle.std.proofs.Common.{ℕ, ◌+◌, ◌-◌, ◌*◌, ◌<◌, ◌≡◌, Bool, true, false, length, refl, sym, min, zero-add, arith, rules, tests}
use Rattle.std.specs.Bool.{MatchBool}
use Rattle.std.specs.List.{range_with_len, AllWithin, HoldsAt}
use Rattle.std.proofs.lemmas.Iterator.{YieldsList-from_range, cases_from_all}
use Rattle.std.proofs.lemmas.List.FromFn.{length-range_with_len, get_or-range_with_len}
use Rattle.rules.specs.District.{District, most_segments, segments_at, per_segment, leader_at, district_places, value_at, segments_of}
use Rattle.rules.specs.File.{leaderless}
use Rattle.file.proofs.TwoForms.{leader_none, leader_set_lem, no_leader}
use Rattle.file.proofs.forms.is_leaderless.Goals as goal

module _ (d : District) (n : ℕ) (l : length d ≡ district_places) (e : n ≡ min (segments_of d) most_segments) where
  -- the leader of the segment with i before it
  abbrev leader : ℕ → ℕ
  leader i = value_at d (segments_at + per_segment * i + leader_at)

  tested : (t : Bool) → MatchBool t (AllWithin (λ i. leader i ≡ 0) (range_with_len 0 n) 0 (length (range_with_len 0 n))) ((k : ℕ) × (k < length (range_with_len 0 n)) × HoldsAt (λ i. ¬ (leader i ≡ 0)) (range_with_len 0 n) k) → t ≡ leaderless d
  tested true all =
      sym (no_leader d l (λ k a b.
      let i : k - 1 < n = omega arith in
      let at = rw (get_or-range_with_len 0 n (k - 1) 0 i, zero-add) at (all (k - 1) 0 (omega arith) (omega (arith, length-range_with_len 0 n))) in
      let q : k - 1 + 1 ≡ k = omega arith in
      rw q at (leader_none d (k - 1) at)))
  tested false some =
      let i : some.0 < n = omega (arith, some.1, length-range_with_len 0 n) in
      sym (leader_set_lem d some.0 (omega arith) (rw (get_or-range_with_len 0 n some.0 0 i, zero-add) at (some.2 0)))

pub all-requires-clause-can : goal.all-requires-clause-can
all-requires-clause-can c = tt

pub all-requires-clause-finite : goal.all-requires-clause-finite
all-requires-clause-finite c = tt

pub returns : goal.returns
returns c =
    let d = c.args.d.now in
    let n = c.min-segments.result in
    let places : length d ≡ district_places = search rules in
    tested d n places c.min-segments.ensures c.all.result
    (cases_from_all _ _ _ (λ i. leader d n places c.min-segments.ensures i ≡ 0) (λ i. ¬ (leader d n places c.min-segments.ensures i ≡ 0)) c.all.ensures.ran (YieldsList-from_range 0 n n refl (omega arith)) (λ x q k. search (rules, tests)) (λ x q k. search (rules, tests)))
