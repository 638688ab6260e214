-- `pages::cells::put_row` meets its contract: what is written and the cells to come are the line.
use Rattle.std.proofs.Common.{ℕ, ◌≡◌, ◌≤◌, List, [], ◌∷◌, ◌++◌, length, replicate, ◌⊎◌, inl, inr, refl, arith, append_assoc}
use Rattle.std.proofs.lemmas.Slice.Zip.{Zip-more, either_empty_from_Zip}
use Rattle.base.specs.Text.{text}
use Rattle.base.proofs.Buffers.{Written, written_none}
use Rattle.base.proofs.Text.{put_more, put_last, tail_fits, last_fits}
use Rattle.laws.proofs.Page.{line_length}
use Rattle.rules.specs.Page.{widths, right_aligned, line}
use Rattle.pages.specs.Cells.{text_of, texts}
use Rattle.pages.specs.Printed.{line_bytes}
use Rattle.pages.specs.declared.cells.Cell.{Cell}
use Rattle.pages.proofs.Texts.{column_length}
use Rattle.pages.proofs.cells.put_row.Goals as goal

fits : (row : List Cell) (n : ℕ) → line_bytes ≤ n → length (line widths (texts row)) ≤ n
fits row n h = omega (arith, line_length (texts row))

-- a cell with its blank
abbrev column : ℕ → Cell → List ℕ
column w x = right_aligned w (text_of x) ++ text " "

-- a cell is to come
next :
    {ws ws' : List ℕ} {row row' : List Cell} (w : ℕ) (x : Cell) {old whole out : List ℕ} {at : ℕ} → ws ≡ w ∷ ws' → row ≡ x ∷ row'
    → Written old whole (line ws (texts row)) at out → Written old whole (column w x ++ line ws' (texts row')) at out
unfolding line texts
next w x e f written = rw append_assoc (rw (e, f) at written)

-- the end is to come
none_left : (ws : List ℕ) (row : List Cell) → length ws ≡ length row → (ws ≡ []) ⊎ (row ≡ []) → ws ≡ []
none_left [] row e h = refl
none_left (w ∷ ws) [] e h = absurd (omega arith)
none_left (w ∷ ws) (x ∷ row) e (inl f) = f
none_left (w ∷ ws) (x ∷ row) e (inr f) = cc

end_next :
    (ws : List ℕ) (row : List Cell) {old whole out : List ℕ} {at : ℕ} → ws ≡ [] → Written old whole (line ws (texts row)) at out
    → Written old whole (replicate 9 32 ++ text "\n") at out
unfolding line
end_next ws row e written = rw e at written

pub loop-width-init : goal.loop-width-init
loop-width-init c =
    let zip = c.zip-width-items.ensures in
    rw (c.into_iter-width-iterator.ensures.into_iter_gives, zip.first, zip.second, c.iter.ensures.rest, c.iter-2.ensures.rest)
    record { same = omega arith; written = written_none _ _ }

pub put_cell-at-requires : goal.put_cell-at-requires
put_cell-at-requires c =
    let l = c.loop-width in
    let more = Zip-more l.width-iterator c.next.new.self c.next.result (c.in-Some.width, c.in-Some.cell) c.in-Some.is c.next.ensures.steps in
    let w = c.in-Some.width.now in
    let x = c.in-Some.cell.now in
    let room = tail_fits (column w x) _ (next w x more.0 more.1 l.invariant.written) (fits c.args.row _ c.requires) in
    omega (arith, column_length w (text_of x))

pub loop-width-preserved : goal.loop-width-preserved
loop-width-preserved c =
    let l = c.loop-width in
    let more = Zip-more l.width-iterator c.next.new.self c.next.result (c.in-Some.width, c.in-Some.cell) c.in-Some.is c.next.ensures.steps in
    let w = c.in-Some.width.now in
    let x = c.in-Some.cell.now in
    record {
      same = let e = rw (more.0, more.1) at l.invariant.same in omega arith;
      written = put_more (column w x) _ (next w x more.0 more.1 l.invariant.written) (fits c.args.row _ c.requires) c.put_cell-at.ensures;
    }

pub put-requires : goal.put-requires
unfolding text
put-requires c =
    let l = c.loop-width in
    let none = none_left _ _ l.invariant.same (either_empty_from_Zip l.width-iterator c.next.new.self c.next.result c.in-None.is c.next.ensures.steps) in
    last_fits (end_next _ _ none l.invariant.written) (fits c.args.row _ c.requires)

pub returns : goal.returns
unfolding text
returns c =
    let l = c.loop-width in
    let none = none_left _ _ l.invariant.same (either_empty_from_Zip l.width-iterator c.next.new.self c.next.result c.in-None.is c.next.ensures.steps) in
    put_last (end_next _ _ none l.invariant.written) (fits c.args.row _ c.requires) c.put.ensures
