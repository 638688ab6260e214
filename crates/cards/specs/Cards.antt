-- What the code's answers stand for.
use Rattle.std.specs.Prelude.{ℕ, ◌+◌, ◌≡◌, List, ◌++◌, drop, replicate}
use Rattle.base.specs.Over.{listed}
use Rattle.rules.specs.Deck.{per_card, no_counts, rows_before_counts, rows_before_segment, counts_in, segment_in}
use Rattle.rules.specs.Deck as Rules
use Rattle.rules.specs.District.{most_segments, segments_of}
use Rattle.rules.specs.Format.{plain_form}
use Rattle.cards.specs.declared.columns.Card.{Card}
use Rattle.cards.specs.declared.columns.Card.TheVariants.{Counts, Segment}
use Rattle.cards.specs.declared.columns.Columns.{Columns}
use Rattle.cards.specs.declared.Deck.{Deck}

-- title, counts and segments
abbrev pub most_lines : ℕ
most_lines = most_segments + 2

-- the rows of the layout that stand before those of a card
abbrev pub rows_before : Card → ℕ
rows_before Counts = rows_before_counts
rows_before (Segment counts) = rows_before_segment

-- the counts that its ranges go by; those of the counts themselves go by none
abbrev pub counts_with : Card → List ℕ
counts_with Counts = no_counts
counts_with (Segment counts) = counts.now

-- the kind of the file's record that a card's numbers are of
abbrev pub kind_of : Card → ℕ
kind_of Counts = plain_form
kind_of (Segment counts) = 6

-- a row of the layout
abbrev pub columns_in : Card → Columns → Rules.Columns
columns_in card c = record { first = c.first; last = c.last; notation = c.notation; kind = kind_of card; place = c.place }

-- zeros in every segment's place
abbrev pub no_segments : List (List ℕ)
no_segments = replicate most_segments (replicate per_card 0)

-- what is held of a deck that nothing refuses: its counts, and the numbers of each of its segments, with zeros behind the last
pub record Says (deck : List ℕ) (d : Deck) : Type 0 where
  pub counts : d.counts ≡ counts_in deck
  pub segments : d.segments ≡ listed (segments_of (counts_in deck)) (segment_in deck) ++ drop (segments_of (counts_in deck)) no_segments
