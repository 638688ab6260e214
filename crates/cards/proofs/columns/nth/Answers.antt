-- `cards::columns::nth` meets its contract: the two tables are the rules' rows.
use Rattle.std.proofs.Common.{ℕ, ◌≡◌, ◌+◌, ◌-◌, ◌<◌, List, length, get_or, take, drop, map, refl, sym, ap, ◌∙◌, arith}
use Rattle.std.proofs.lemmas.List.{get_or-map}
use lib.Seq.{get_or-take, get_or-drop}
use Rattle.rules.specs.Deck.{per_card, columns, row, layout}
use Rattle.rules.specs.Deck as Rules
use Rattle.rules.specs.declared.Notation.TheVariants.{Whole}
use Rattle.cards.specs.Cards.{rows_before, columns_in}
use Rattle.cards.specs.declared.columns.Card.{Card}
use Rattle.cards.specs.declared.columns.Card.TheVariants.{Counts, Segment}
use Rattle.cards.specs.declared.columns.Columns.{Columns}
use Rattle.cards.specs.declared.columns.TheConstants.{COUNTS, SEGMENT}
use Rattle.cards.proofs.columns.nth.Goals as goal

abbrev table : Card → List Columns
table Counts = COUNTS
table (Segment counts) = SEGMENT

-- where there is none
abbrev nothing : Columns
nothing = record { first = 0; last = 0; notation = Whole; place = 0 }

long : (card : Card) → length (table card) ≡ per_card
long Counts = refl
long (Segment counts) = refl

rows : (card : Card) → map (columns_in card) (table card) ≡ take per_card (drop (rows_before card) layout)
unfolding layout
rows Counts = refl
rows (Segment counts) = refl

entry_row : (card : Card) (n : ℕ) → n < per_card → columns_in card (get_or (table card) n nothing) ≡ row (rows_before card + n + 1)
unfolding row
entry_row card n h =
    let none = columns 0 0 Whole 0 0 in
    let same : rows_before card + n + 1 - 1 ≡ rows_before card + n = omega arith in
    sym (get_or-map (columns_in card) (table card) n nothing none (rw (long card) h))
    ∙ ap (λ (l : List Rules.Columns). get_or l n none) (rows card)
    ∙ get_or-take per_card (drop (rows_before card) layout) n none h
    ∙ get_or-drop (rows_before card) layout n none
    ∙ rw same refl

pub returns-in-Counts-clause-row : goal.returns-in-Counts-clause-row
returns-in-Counts-clause-row c = rw c.in-Counts.is (entry_row Counts c.args.n c.requires)

pub returns-in-Segment-clause-row : goal.returns-in-Segment-clause-row
returns-in-Segment-clause-row c = rw c.in-Segment.is (entry_row (Segment c.in-Segment.field-0) c.args.n c.requires)
