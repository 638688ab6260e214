-- What deck prints for the bytes that it reads.
use Rattle.std.specs.Prelude.{ℕ, ◌+◌, ◌-◌, ◌*◌, ◌≤◌, List, [], ◌∷◌, ◌++◌, ◌≡◌, get_or, take}
use Rattle.base.specs.Text.{text, most_digits, decimal}
use Rattle.rules.specs.Deck.{per_card, counts_in, segment_in, deck_refusal, deck_bytes, longest_deck}
use Rattle.rules.specs.District.{most_segments, segments_of}
use Rattle.listing.specs.Listing.{named, lines_from, or_refusal}
use Rattle.cards.specs.declared.Deck.{Deck}

-- each number behind a blank, and the end of the line
unfoldable pub numbers_line : List ℕ → List ℕ
numbers_line [] = text "\n"
numbers_line (n ∷ ns) = named (text " ") n ++ numbers_line ns

unfoldable pub counts_line : List ℕ → List ℕ
counts_line counts = text "counts" ++ numbers_line counts

-- of segment i, by the numbers of each
unfoldable pub segment_line : (ℕ → List ℕ) → ℕ → List ℕ
segment_line numbers i = decimal i ++ numbers_line (numbers i)

-- the counts N, S, T, D and Y, and a line for each of the N segments
unfoldable pub card_lines : List ℕ → (ℕ → List ℕ) → List ℕ
card_lines counts numbers = counts_line counts ++ lines_from (segments_of counts) 1 (segment_line numbers)

unfoldable pub printed : List ℕ → List ℕ
printed deck = or_refusal (deck_refusal deck) (card_lines (counts_in deck) (segment_in deck))

-- what stands behind the cards of n segments makes no difference to a deck that has no more; nor does, to any deck, what stands behind the longest,
-- where the program stops
pub record NotRead (deck : List ℕ) : Type 0 where
  pub behind : (n : ℕ) → segments_of (counts_in deck) ≤ n → printed (take (deck_bytes n) deck) ≡ printed deck
  pub longest : printed (take longest_deck deck) ≡ printed deck

-- ---- how many bytes it has at most

abbrev pub longest_numbers_line : ℕ
longest_numbers_line = (1 + most_digits) * per_card + 1

abbrev pub longest_printed : ℕ
longest_printed = 6 + longest_numbers_line + (most_digits + longest_numbers_line) * most_segments

-- ---- what the code holds

-- the numbers of each segment, from 1
abbrev pub numbers_at : List (List ℕ) → ℕ → List ℕ
numbers_at segments i = get_or segments (i - 1) []

abbrev pub held_lines : Deck → List ℕ
held_lines d = card_lines d.counts (numbers_at d.segments)
