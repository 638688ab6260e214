-- `command::read` meets its contract: the cases of a line, in order.
use Rattle.std.proofs.Common.{◌≡◌, ◌≤◌, ◌∙◌, ℕ, Bool, true, false, List, length, ap, sym, rules}
use borrow.Author.Tests.{tests, le-ltb, lt-ltb}
use Rattle.std.proofs.lemmas.Iterator.{YieldsList-from_slice}
use Rattle.std.proofs.lemmas.Iterator.Search.{all_from_yields_List}
use Rattle.std.specs.List.{list_all}
use Rattle.base.specs.Text.{text}
use Rattle.base.specs.Same.{same}
use Rattle.command.specs.Reading.{is_space, is_comment, word_of, row, rows, called, queued_in, command_in, longest_line}
use Rattle.command.specs.declared.Command.{Command}
use Rattle.command.proofs.read.Goals as goal

-- a line that is no comment and not too long
module _ (line : List ℕ) (comment : is_comment line ≡ false) (long : length line ≤ longest_line) where
  pub spaces_say : list_all is_space line ≡ true → command_in line ≡ Command.Nothing
  unfolding command_in
  spaces_say s = rw (comment, le-ltb longest_line (length line) long, s)

  module _ (s : list_all is_space line ≡ false) where
    pub queue_says : same (word_of line) (text "queue") ≡ true → command_in line ≡ queued_in line
    unfolding command_in
    queue_says q = rw (comment, le-ltb longest_line (length line) long, s, q)

    pub call_says : same (word_of line) (text "queue") ≡ false → command_in line ≡ called rows line
    unfolding command_in
    call_says q = rw (comment, le-ltb longest_line (length line) long, s, q)

is_queue : (line word : List ℕ) (t : Bool) → word ≡ word_of line → t ≡ same word (text "queue") → same (word_of line) (text "queue") ≡ t
is_queue line word t e f = ap (λ w. same w (text "queue")) (sym e) ∙ sym f

pub returns-then-is_comment : goal.returns-then-is_comment
unfolding command_in
returns-then-is_comment c = rw (sym c.is_comment.ensures ∙ c.if-is_comment.true)

pub returns-then-line-gt-LONGEST_LINE : goal.returns-then-line-gt-LONGEST_LINE
unfolding command_in
returns-then-line-gt-LONGEST_LINE c =
    rw (sym c.is_comment.ensures ∙ c.if-is_comment.false, lt-ltb longest_line (length c.args.line.now) c.if-line-gt-LONGEST_LINE.true)

pub returns-then-all : goal.returns-then-all
returns-then-all c =
    let line = c.args.line.now in
    let all = all_from_yields_List is_space _ _ c.all.result c.all.ensures.ran (YieldsList-from_slice line cc) (λ x b q k. search (rules, tests)) in
    sym (spaces_say line (sym c.is_comment.ensures ∙ c.if-is_comment.false) c.if-line-gt-LONGEST_LINE.false (sym all ∙ c.if-all.true))

pub returns-then-is_said : goal.returns-then-is_said
unfolding row
returns-then-is_said c =
    let line = c.args.line.now in
    let all = all_from_yields_List is_space _ _ c.all.result c.all.ensures.ran (YieldsList-from_slice line cc) (λ x b q k. search (rules, tests)) in
    let q = is_queue line c.up_to.result.now _ c.up_to.ensures c.is_said.ensures ∙ c.if-is_said.true in
    c.queue.ensures ∙ sym (queue_says line (sym c.is_comment.ensures ∙ c.if-is_comment.false) c.if-line-gt-LONGEST_LINE.false (sym all ∙ c.if-all.false) q)

pub returns : goal.returns
unfolding row
returns c =
    let line = c.args.line.now in
    let all = all_from_yields_List is_space _ _ c.all.result c.all.ensures.ran (YieldsList-from_slice line cc) (λ x b q k. search (rules, tests)) in
    let q = is_queue line c.up_to.result.now _ c.up_to.ensures c.is_said.ensures ∙ c.if-is_said.false in
    c.called.ensures ∙ sym (call_says line (sym c.is_comment.ensures ∙ c.if-is_comment.false) c.if-line-gt-LONGEST_LINE.false (sym all ∙ c.if-all.false) q)
