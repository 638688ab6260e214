-- `printing::put_in_line` meets its contract: three pieces, one after another.
use Rattle.std.proofs.Common.{List, ℕ, ◌++◌, arith}
use Rattle.base.specs.Text.{text, decimal}
use Rattle.base.proofs.Text.{front_fits, put_within}
use Rattle.listing.proofs.Pieces.{second_of_three_fits, third_fits, put_three}
use Rattle.texts.specs.Complaints.{fault_text}
use Rattle.texts.specs.Found.{fault_in}
use Rattle.texts.specs.Pieces.{pieces_text}
use Rattle.texts.proofs.Lined.{sizes}
use Rattle.texts.proofs.Told.{in_line}
use Rattle.texts.proofs.printing.put_in_line.Goals as goal

abbrev front : ℕ → List ℕ
front n = text "line " ++ (decimal n ++ text ": ")

pub put_pieces-at-requires : goal.put_pieces-at-requires
unfolding pieces_text text
put_pieces-at-requires c =
    let a = c.args in
    front_fits (front a.n) (fault_text (fault_in a.fault) ++ text "\n") (rw (in_line a.n (fault_in a.fault)) at c.requires)

pub put_fault-at-requires : goal.put_fault-at-requires
unfolding pieces_text text
put_fault-at-requires c =
    let a = c.args in
    second_of_three_fits (front a.n) (fault_text (fault_in a.fault)) (text "\n") (rw (in_line a.n (fault_in a.fault)) at c.requires) c.put_pieces-at.ensures

pub put-requires : goal.put-requires
unfolding pieces_text text
put-requires c =
    let a = c.args in
    third_fits (front a.n) (fault_text (fault_in a.fault)) (text "\n") (rw (in_line a.n (fault_in a.fault)) at c.requires) c.put_pieces-at.ensures c.put_fault-at.ensures

pub returns : goal.returns
unfolding pieces_text text
returns c =
    let a = c.args in
    rw (in_line a.n (fault_in a.fault)) (put_three (front a.n) (fault_text (fault_in a.fault)) (text "\n") (rw (in_line a.n (fault_in a.fault)) at c.requires) c.put_pieces-at.ensures c.put_fault-at.ensures c.put.ensures)

pub slice_bounds-put_fault-count : goal.slice_bounds-put_fault-count
slice_bounds-put_fault-count c = put_within c.put_pieces-at.ensures

pub overflow_add-at : goal.overflow_add-at
unfolding pieces_text text
overflow_add-at c =
    let a = c.args in
    omega (arith, sizes (front a.n) (fault_text (fault_in a.fault)) (text "\n") (rw (in_line a.n (fault_in a.fault)) at c.requires))

pub slice_bounds-put-count : goal.slice_bounds-put-count
unfolding pieces_text text
slice_bounds-put-count c =
    let a = c.args in
    omega (arith, sizes (front a.n) (fault_text (fault_in a.fault)) (text "\n") (rw (in_line a.n (fault_in a.fault)) at c.requires))

pub overflow_add-result : goal.overflow_add-result
unfolding pieces_text text
overflow_add-result c =
    let a = c.args in
    omega (arith, sizes (front a.n) (fault_text (fault_in a.fault)) (text "\n") (rw (in_line a.n (fault_in a.fault)) at c.requires))
