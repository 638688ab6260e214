-- What was printed so far, and what is printed for the frames to come, is what is printed for all.
use Rattle.std.proofs.Common.{◌≡◌, ℕ, List, IfSome, length}
use Rattle.base.specs.Text.{Put}
use Rattle.frames.specs.Frames.{longest_frame}
use Rattle.frames.proofs.Turns.{Going}
use Rattle.frames.proofs.answered.Given as goal

abbrev pub invariant-loop : goal.invariant-loop
invariant-loop g l =
    (length l.space ≡ longest_frame)
    × ((print : List ℕ → List ℕ) → ((frame : _) (out : _) (n : ℕ) (after : _) → length out.now ≡ g.row.SPACE → goal.F-post g l.answer frame out n after → Put (print frame.now) out.now after.now n)
    → IfSome (g.R.Read.remaining l.initial.input) (λ bytes. Going print l.counter bytes (g.R.Read.remaining l.input) (g.W.Write.contents l.initial.output) (g.W.Write.contents l.output)))
