-- Laws of the reading of a line.
use Prim.Native.Nat.{ℕ, zero, suc, ◌+◌, ◌-◌, ◌≤◌, ◌<◌}
use native.Mathlib.Numerals.{add-one}
use lib.Seq.{take-suc-set}
use Rattle.std.specs.Bool.{then_some}
use mathlib.Core.Bool.{Bool, true, false}
use mathlib.Core.List.{List, [], ◌∷◌, ◌++◌, append-nil, append_assoc}
use Rattle.std.specs.Prelude.{Option, None, Some}
use mathlib.Core.Path.{◌≡◌, refl, sym, ap, ◌∙◌, fun_ext}
use native.Mathlib.Omega.{arith}
use lib.Dec.{eqb}
use lib.ListN.{length, get_or, take, drop, set, replicate, length-drop}
use lib.Seq.{drop-drop, get_or-drop}
use Rattle.base.specs.Choice.{pick, only}
use Rattle.base.proofs.Parts.{on_dropped}
use Rattle.command.specs.Reading.{word_of, first_number, after_number, with_number, arguments, at, placed, path_of, edit_in, queued_as}
use Rattle.rules.specs.declared.Edit.{Edit}
use Rattle.command.specs.declared.Command.{Command}

-- ---- numbers

-- numbers that are read, and those that follow
unfoldable pub prefixed : List ℕ → Option (List ℕ) → Option (List ℕ)
prefixed vs None = None
prefixed vs (Some ws) = Some (vs ++ ws)

pub prefixed_none : (o : Option (List ℕ)) → prefixed [] o ≡ o
unfolding prefixed
prefixed_none None = refl
prefixed_none (Some ws) = refl

pub prefixed_one : (vs : List ℕ) (v : ℕ) (o : Option (List ℕ)) → prefixed vs (with_number (Some v) o) ≡ prefixed (vs ++ (v ∷ [])) o
unfolding prefixed with_number
prefixed_one vs v None = refl
prefixed_one vs v (Some ws) = ap Some (sym (append_assoc vs (v ∷ []) ws))

arguments_more : (n : ℕ) (bs : List ℕ) (v : ℕ) (vs : List ℕ) → first_number bs ≡ Some v → prefixed vs (arguments (suc n) bs) ≡ prefixed (vs ++ (v ∷ [])) (arguments n (after_number bs))
unfolding arguments
arguments_more n bs v vs e = rw e (prefixed_one vs v (arguments n (after_number bs)))

arguments_stop : (n : ℕ) (bs vs : List ℕ) → first_number bs ≡ None → prefixed vs (arguments (suc n) bs) ≡ None
unfolding arguments prefixed with_number
arguments_stop n bs vs e = rw e

-- ---- the numbers read so far, and what is still to be read

module _ (n i : ℕ) (bs items : List ℕ) {all : Option (List ℕ)} (h : i < n) (e : all ≡ prefixed (take i items) (arguments (n - i) bs)) where
  left : all ≡ prefixed (take i items) (arguments (suc (n - (i + 1))) bs)
  left = let more : n - i ≡ suc (n - (i + 1)) = omega arith in rw more at e

  pub read_none : first_number bs ≡ None → all ≡ None
  read_none f = left ∙ arguments_stop (n - (i + 1)) bs (take i items) f

  pub read_one : (v : ℕ) (rest : List ℕ) → i < length items → first_number bs ≡ Some v → rest ≡ after_number bs → all ≡ prefixed (take (i + 1) (set items i v)) (arguments (n - (i + 1)) rest)
  read_one v rest k f r =
      let kept : take (i + 1) (set items i v) ≡ take i items ++ (v ∷ []) = rw (add-one i) (take-suc-set items i v k) in
      rw (kept, r) (left ∙ arguments_more (n - (i + 1)) bs v (take i items) f)

-- ---- numbers by their places

zero_in : (m k : ℕ) → get_or {A = ℕ} (replicate m 0) k 0 ≡ 0
zero_in zero k = refl
zero_in (suc m) zero = refl
zero_in (suc m) (suc k) = zero_in m k

zero_at : (n m k : ℕ) → get_or {A = ℕ} (drop n (replicate m 0)) k 0 ≡ 0
zero_at n m k = get_or-drop n (replicate m 0) k 0 ∙ zero_in m (n + k)

-- zeros behind them say nothing
at_front : (vs zs : List ℕ) → ((k : ℕ) → get_or zs k 0 ≡ 0) → (k : ℕ) → at (vs ++ zs) k ≡ at vs k
at_front [] zs h k = h k
at_front (v ∷ vs) zs h zero = refl
at_front (v ∷ vs) zs h (suc k) = at_front vs zs h k

-- all are read: as many as there are to be, where nothing follows
pub read_all : (n m : ℕ) (vs rest : List ℕ) {all : Option (List ℕ)} → all ≡ prefixed vs (arguments zero rest) → placed (then_some (eqb (length rest) 0) (vs ++ drop n (replicate m 0))) ≡ placed all
unfolding arguments prefixed placed
read_all n m vs rest e = rw e (go (eqb (length rest) 0))
  where
    go : (t : Bool) → placed (then_some t (vs ++ drop n (replicate m 0))) ≡ placed (prefixed vs (pick t (Some []) None))
    go true = ap Some (fun_ext (at_front vs (drop n (replicate m 0)) (zero_at n m)) ∙ ap at (sym (append-nil vs)))
    go false = refl

-- a path has none
pub no_numbers : (t : Bool) → placed (then_some t (0 ∷ 0 ∷ 0 ∷ 0 ∷ [])) ≡ only t (at [])
unfolding placed
no_numbers true = ap Some (fun_ext (at_front [] (0 ∷ 0 ∷ 0 ∷ 0 ∷ []) (zero_at 0 4)))
no_numbers false = refl

-- ---- paths

path_drop : (line : List ℕ) (n : ℕ) → n ≡ length (word_of line) → drop (n + 1) line ≡ path_of line
unfolding path_of
path_drop line n e = sym (drop-drop 1 n line) ∙ ap (drop 1) (on_dropped 32 line n e)

-- it is no longer than its line
pub path_fits : (line : List ℕ) → length (path_of line) ≤ length line
path_fits line = omega (arith, ap length (path_drop line (length (word_of line)) refl), length-drop (length (word_of line) + 1) line)

-- ---- commands

-- a command that is no edit
pub no_edit : (c : Command) → ((e : Edit) → ¬ (c ≡ Command.Alter e)) → edit_in c ≡ None
unfolding edit_in
no_edit Command.Nothing unlike = refl
no_edit Command.Unknown unlike = refl
no_edit Command.Load unlike = refl
no_edit Command.Export unlike = refl
no_edit (Command.Alter e) unlike = absurd (unlike e refl)
no_edit Command.Show unlike = refl
no_edit (Command.Points code degree extent seal) unlike = refl
no_edit Command.Page unlike = refl
no_edit (Command.Why i j) unlike = refl
no_edit (Command.Send s) unlike = refl
no_edit Command.Roughness unlike = refl
no_edit (Command.Office n) unlike = refl
no_edit (Command.Queue n e) unlike = refl
no_edit Command.Step unlike = refl
no_edit Command.Blocks unlike = refl

-- one that is not behind a number, or no edit, is no command
pub queued_none : (o : Option Edit) → queued_as None o ≡ Command.Unknown
unfolding queued_as
queued_none o = refl

pub queued_other : (n : ℕ) (c : Command) → ((e : Edit) → ¬ (c ≡ Command.Alter e)) → queued_as (Some n) (edit_in c) ≡ Command.Unknown
unfolding queued_as
queued_other n c k = rw (no_edit c k)

pub queued_edit : (n : ℕ) (e : Edit) → queued_as (Some n) (edit_in (Command.Alter e)) ≡ Command.Queue n e
unfolding queued_as edit_in
queued_edit n e = refl
