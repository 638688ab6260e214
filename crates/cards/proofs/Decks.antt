-- Laws of a deck: what is first refused, and one segment more.
use Rattle.std.proofs.Common.{ℕ, zero, suc, ◌≡◌, ◌+◌, ◌≤◌, ◌<◌, true, false, List, ◌++◌, refl, sym, ap, ◌∙◌, add-one, drop, set, arith}
use Rattle.base.proofs.Sums.{up_to}
use Rattle.base.proofs.Listed.{fill_next}
use Rattle.base.specs.Over.{listed_from}
use Rattle.rules.specs.Answers.{wrong_line, or_later, first_refusal}
use Rattle.rules.specs.Deck.{no_counts, rows_before_counts, rows_before_segment, numbers_on, line_at, is_line, card_refusal, title_refusal, counts_refusal, counts_in, segment_refusal, segment_in, deck_refusal}
use Rattle.rules.specs.District.{most_segments, segments_of}
use Rattle.cards.specs.Cards.{no_segments}
use Rattle.cards.proofs.Ranges.{segments_few}

-- ---- the first refusal

later_first : (x later : ℕ) → 1 ≤ x → or_later x later ≡ x
later_first zero later h = absurd (omega arith)
later_first (suc x) later h = refl

none_next : (n : ℕ) (f : ℕ → ℕ) → first_refusal n f ≡ 0 → f (n + 1) ≡ 0 → first_refusal (n + 1) f ≡ 0
unfolding first_refusal
none_next n f e h = rw (add-one, e) (rw add-one at h)

first_is : (n k : ℕ) (f : ℕ → ℕ) (x : ℕ) → suc k ≤ n → first_refusal k f ≡ 0 → f (suc k) ≡ x → 1 ≤ x → first_refusal n f ≡ x
unfolding first_refusal
first_is zero k f x l e h z = absurd (omega arith)
first_is (suc n) k f x l e h z =
    up_to l
    (λ q. let same : k ≡ n = omega arith in rw (← same, e) h)
    (λ u. rw (first_is n k f x u e h z) (later_first x (f (suc n)) z))

-- ---- a deck, card by card

module _ (deck : List ℕ) where
  pub title_bad : is_line (line_at deck 0) ≡ false → wrong_line ≡ deck_refusal deck
  unfolding deck_refusal title_refusal
  title_bad e = rw e

  pub none_yet : first_refusal 0 (segment_refusal deck) ≡ 0
  unfolding first_refusal
  none_yet = refl

  module _ (title : is_line (line_at deck 0) ≡ true) where
    pub counts_bad : (n : ℕ) → 1 ≤ n → n ≡ card_refusal no_counts (line_at deck 1) rows_before_counts → n ≡ deck_refusal deck
    unfolding deck_refusal title_refusal counts_refusal
    counts_bad n l e = rw (title, ← e) (sym (later_first n _ l))

    module _ (good : 0 ≡ card_refusal no_counts (line_at deck 1) rows_before_counts) where
      deck_is : deck_refusal deck ≡ first_refusal (segments_of (counts_in deck)) (segment_refusal deck)
      unfolding deck_refusal title_refusal counts_refusal
      deck_is = rw (title, ← good)

      pub segment_bad : (i n : ℕ) → i < segments_of (counts_in deck) → first_refusal i (segment_refusal deck) ≡ 0 → 1 ≤ n → n ≡ segment_refusal deck (i + 1) → n ≡ deck_refusal deck
      segment_bad i n h none l e =
          sym (deck_is ∙ first_is (segments_of (counts_in deck)) i (segment_refusal deck) n h none (rw add-one at (sym e)) l)

      pub all_good : first_refusal (segments_of (counts_in deck)) (segment_refusal deck) ≡ 0 → 0 ≡ deck_refusal deck
      all_good none = sym (deck_is ∙ none)

  pub counts_are : {counts : List ℕ} → counts ≡ numbers_on no_counts (line_at deck 1) rows_before_counts → counts ≡ counts_in deck
  unfolding counts_in
  counts_are e = e

  -- a segment's card, on its line
  module _ (i : ℕ) {counts : List ℕ} (e : counts ≡ counts_in deck) where
    pub within : i < segments_of counts → i < most_segments
    within h = omega (arith, segments_few deck, ap segments_of e)

    pub segment_refused : card_refusal counts (line_at deck (i + 2)) rows_before_segment ≡ segment_refusal deck (i + 1)
    unfolding segment_refusal
    segment_refused = let q : i + 2 ≡ i + 1 + 1 = omega arith in rw (e, q)

    pub segment_good : first_refusal i (segment_refusal deck) ≡ 0 → 0 ≡ card_refusal counts (line_at deck (i + 2)) rows_before_segment → first_refusal (i + 1) (segment_refusal deck) ≡ 0
    segment_good none good = none_next i (segment_refusal deck) none (sym segment_refused ∙ sym good)

    pub segment_held : {held : List (List ℕ)} (numbers : List ℕ) → i < most_segments → held ≡ listed_from i 1 (segment_in deck) ++ drop i no_segments
        → numbers ≡ numbers_on counts (line_at deck (i + 2)) rows_before_segment → set held i numbers ≡ listed_from (i + 1) 1 (segment_in deck) ++ drop (i + 1) no_segments
    unfolding segment_in
    segment_held numbers l h f =
        let q : i + 2 ≡ 1 + i + 1 = omega arith in
        rw h (fill_next (segment_in deck) i 1 no_segments l (rw (f, e, q)))
