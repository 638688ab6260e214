-- Laws of what deck prints: how long it is, what the code holds of it, and what it does not depend on.
use Prim.Native.Nat.{ℕ, zero, suc, ◌+◌, ◌-◌, ◌*◌, ◌≤◌, ◌<◌}
use mathlib.Core.List.{List, [], ◌∷◌, ◌++◌}
use mathlib.Core.Path.{◌≡◌, refl, sym, ap, ◌∙◌}
use native.Mathlib.Omega.{arith}
use lib.ListN.{length, get_or, get_or-append, take, drop, length-append, length-take, drop_of_length-le}
use Rattle.base.specs.Over.{listed}
use Rattle.base.specs.Text.{text, most_digits, decimal}
use Rattle.base.proofs.Listed.{listed_length, listed_entry}
use Rattle.std.proofs.lemmas.List.{drop_more, get_or-take}
use Rattle.base.proofs.Text.{decimal_few}
use Rattle.rules.specs.Deck.{per_card, counts_in, segment_in, numbers_on, deck_refusal, deck_bytes}
use Rattle.rules.specs.District.{most_segments, segments_of}
use Rattle.listing.specs.Listing.{named, lines_from, refusal, or_refusal}
use Rattle.listing.proofs.Lengths.{named_few}
use Rattle.listing.proofs.Lines.{lines_few, lines_alike}
use Rattle.rules.specs.Answers.{refusal_number}
use Rattle.rules.specs.declared.refusals.Refusal.{Refusal}
use Rattle.cards.specs.Cards.{no_segments, Says}
use Rattle.cards.specs.declared.Deck.{Deck}
use Rattle.rules.proofs.RefusalNumbers.{numbered}
use Rattle.cards.proofs.Ranges.{segments_few}
use Rattle.cards.proofs.Unread.{counts_kept, segment_kept, deck_kept}
use Rattle.deck.specs.Printed.{numbers_line, counts_line, segment_line, card_lines, printed, NotRead, numbers_at, held_lines, longest_numbers_line, longest_printed}

-- ---- number by number

pub numbers_next : (ns : List ℕ) (k : ℕ) → k < length ns → numbers_line (drop k ns) ≡ named (text " ") (get_or ns k 0) ++ numbers_line (drop (k + 1) ns)
unfolding numbers_line
numbers_next ns k h = rw (drop_more ns k 0 h)

pub numbers_end : (ns : List ℕ) (k : ℕ) → length ns ≤ k → numbers_line (drop k ns) ≡ text "\n"
unfolding numbers_line
numbers_end ns k h = rw (drop_of_length-le ns {i = k} h)

-- ---- how long it is

numbers_few : (ns : List ℕ) → length (numbers_line ns) ≤ (1 + most_digits) * length ns + 1
unfolding numbers_line text
numbers_few [] = omega arith
numbers_few (n ∷ ns) = omega (arith, length-append (named (text " ") n) (numbers_line ns), named_few (text " ") n, numbers_few ns)

counts_length : (deck : List ℕ) → length (counts_in deck) ≡ per_card
unfolding counts_in numbers_on
counts_length deck = listed_length _ per_card 1

segment_length : (deck : List ℕ) (i : ℕ) → length (segment_in deck i) ≡ per_card
unfolding segment_in numbers_on
segment_length deck i = listed_length _ per_card 1

line_few : (deck : List ℕ) (i : ℕ) → length (segment_line (segment_in deck) i) ≤ most_digits + longest_numbers_line
unfolding segment_line
line_few deck i = omega (arith, length-append (decimal i) (numbers_line (segment_in deck i)), decimal_few i, numbers_few (segment_in deck i), segment_length deck i)

cards_few : (deck : List ℕ) → length (card_lines (counts_in deck) (segment_in deck)) ≤ longest_printed
unfolding card_lines counts_line text
cards_few deck =
    let counts = counts_in deck in
    let lines = lines_from (segments_of counts) 1 (segment_line (segment_in deck)) in
    omega (
      arith,
      length-append (text "counts" ++ numbers_line counts) lines,
      length-append (text "counts") (numbers_line counts),
      numbers_few counts,
      counts_length deck,
      lines_few (segments_of counts) 1 (segment_line (segment_in deck)) (most_digits + longest_numbers_line) (line_few deck),
      segments_few deck,
    )

-- where each segment's numbers are the same
cards_alike : (counts : List ℕ) (f g : ℕ → List ℕ) → ((k : ℕ) → 1 ≤ k → k < 1 + segments_of counts → f k ≡ g k) → card_lines counts f ≡ card_lines counts g
unfolding card_lines segment_line
cards_alike counts f g h =
    ap (λ (l : List ℕ). counts_line counts ++ l)
    (lines_alike (segments_of counts) 1 (segment_line f) (segment_line g) (λ k l u. ap (λ (ns : List ℕ). decimal k ++ numbers_line ns) (h k l u)))

-- ---- what the code holds

-- the lines of the segments that there are, and not of the zeros behind them
pub held_are : (d : Deck) → segments_of d.counts ≤ length d.segments → counts_line d.counts ++ lines_from (length (take (segments_of d.counts) d.segments)) 1 (segment_line (numbers_at (take (segments_of d.counts) d.segments))) ≡ held_lines d
unfolding card_lines segment_line
held_are d few =
    let n = segments_of d.counts in
    let many : length (take n d.segments) ≡ n = omega (arith, length-take n d.segments, few) in
    rw many
    (ap (λ (l : List ℕ). counts_line d.counts ++ l)
    (lines_alike n 1 (segment_line (numbers_at (take n d.segments))) (segment_line (numbers_at d.segments))
    (λ k l u. ap (λ (ns : List ℕ). decimal k ++ numbers_line ns) (get_or-take n d.segments (k - 1) [] (omega arith)))))

module _ (deck : List ℕ) {d : Deck} (h : Says deck d) where
  numbers_held : (k : ℕ) → 1 ≤ k → k < 1 + segments_of (counts_in deck) → numbers_at d.segments k ≡ segment_in deck k
  numbers_held k l u =
      let n = segments_of (counts_in deck) in
      let q : 1 + (k - 1) ≡ k = omega arith in
      ap (λ s. get_or s (k - 1) []) h.segments
      ∙ get_or-append (listed n (segment_in deck)) (drop n no_segments) [] (k - 1) (omega (arith, listed_length (segment_in deck) n 1))
      ∙ listed_entry n 1 (k - 1) (segment_in deck) [] (omega arith)
      ∙ ap (segment_in deck) q

  pub few : segments_of d.counts ≤ most_segments
  few = rw h.counts (segments_few deck)

  lines_are : held_lines d ≡ card_lines (counts_in deck) (segment_in deck)
  lines_are = rw h.counts (cards_alike (counts_in deck) (numbers_at d.segments) (segment_in deck) numbers_held)

  pub printed_cards : 0 ≡ deck_refusal deck → printed deck ≡ held_lines d
  unfolding printed or_refusal
  printed_cards e = rw (← e) (sym lines_are)

  pub cards_fit : length (held_lines d) ≤ longest_printed
  cards_fit = rw lines_are (cards_few deck)

refused_is : (n : ℕ) (bytes : List ℕ) → 1 ≤ n → or_refusal n bytes ≡ refusal n
unfolding or_refusal
refused_is zero bytes h = absurd (omega arith)
refused_is (suc n) bytes h = refl

pub printed_refused : (deck : List ℕ) (r : Refusal) → refusal_number r ≡ deck_refusal deck → printed deck ≡ refusal (refusal_number r)
unfolding printed
printed_refused deck r e = rw (← e) (refused_is (refusal_number r) _ (numbered r))

-- ---- what it does not depend on

behind_unread : (deck : List ℕ) (n : ℕ) → segments_of (counts_in deck) ≤ n → printed (take (deck_bytes n) deck) ≡ printed deck
unfolding printed
behind_unread deck n h =
    rw (deck_kept deck n h, counts_kept deck n)
    (ap (or_refusal (deck_refusal deck)) (cards_alike (counts_in deck) (segment_in (take (deck_bytes n) deck)) (segment_in deck) (λ k l u. segment_kept deck n k (omega arith))))

pub not_read : (deck : List ℕ) → NotRead deck
not_read deck = record { behind = behind_unread deck; longest = behind_unread deck most_segments (segments_few deck) }
