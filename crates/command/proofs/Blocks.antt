-- Laws of the reading of blocks: what is read so far, and what is still to be read.
use Prim.Native.Nat.{ℕ, zero, suc, ◌+◌, ◌-◌, ◌*◌, ◌≤◌, ◌<◌}
use mathlib.Core.Bool.{Bool, true, false}
use mathlib.Core.List.{List, [], ◌∷◌, ◌++◌, append-nil}
use Rattle.std.proofs.lemmas.Bool.Decides.{nat_tests}
use borrow.Author.Tests.{ne_eqb, le-ltb, lt-ltb}
use Rattle.base.specs.Over.{between}
use Rattle.std.specs.Prelude.{Option, None, Some}
use mathlib.Core.Path.{◌≡◌, refl, sym, ap, ◌∙◌}
use native.Mathlib.Omega.{arith}
use lib.Dec.{eqb}
use lib.ListN.{length, drop, length-append, length-drop}
use Rattle.base.specs.Choice.{pick}
use Rattle.base.specs.Text.{up_to, on_from}
use Rattle.base.proofs.Parts.{up_on}
use Rattle.command.specs.Reading.{number_in, first_number, after_number, with_number, has_stroke, blocks_from, blocks_in, row_in, longest_line}
use Rattle.command.proofs.Reading.{prefixed, prefixed_none, prefixed_one}

is_picked : (t : Bool) (x : Option ℕ) (v : ℕ) → pick t x None ≡ Some v → (t ≡ true) × (x ≡ Some v)
is_picked true x v e = (refl, e)
is_picked false x v e = cc

some_digit : (word : List ℕ) (v : ℕ) → number_in word ≡ Some v → 1 ≤ length word
unfolding number_in
some_digit word v e = let sized = (is_picked (between 1 20 (length word)) _ v e).0 in grind (arith, nat_tests, sized)

-- a number that is read takes two bytes at least, the blank before it and a digit
pub number_takes : (bs : List ℕ) (v : ℕ) → first_number bs ≡ Some v → length (after_number bs) + 2 ≤ length bs
unfolding first_number after_number
number_takes [] v e = cc
number_takes (b ∷ bs) v e =
    let digit = some_digit (up_to 32 bs) v (is_picked (eqb b 32) _ v e).1 in
    omega (arith, digit, ap length (up_on 32 bs), length-append (up_to 32 bs) (on_from 32 bs))

-- the numbers that are read, those that bytes say from there on, and how many turns that may take
pub record Stands (each : ℕ) (bytes items rest : List ℕ) (due : ℕ) : Type 0 where
  pub turns : ℕ
  pub enough : length rest < turns
  pub all : blocks_in each bytes ≡ prefixed items (blocks_from turns each due rest)
  pub room : length items * 2 + length rest ≤ length bytes

pub starts : (each : ℕ) (bytes : List ℕ) → Stands each bytes [] bytes each
unfolding blocks_in
starts each bytes = record { turns = length bytes + 1; enough = omega arith; all = sym (prefixed_none _); room = omega arith }

-- one turn
module _ (each : ℕ) (bytes items rest : List ℕ) where
  -- the end
  ended_in : (turns : ℕ) → length rest ≡ 0 → length rest < turns → prefixed items (blocks_from turns each 0 rest) ≡ Some items
  unfolding blocks_from prefixed
  ended_in zero none enough = absurd (omega arith)
  ended_in (suc turns) none enough = rw none (ap Some (append-nil items))

  pub ended : length rest ≡ 0 → Stands each bytes items rest 0 → blocks_in each bytes ≡ Some items
  ended none stands = stands.all ∙ ended_in stands.turns none stands.enough

  -- a stroke
  module _ (more : ¬ (length rest ≡ 0)) where
    stroke_in : (turns : ℕ) → has_stroke rest ≡ true → length rest < turns → blocks_from turns each 0 rest ≡ blocks_from (turns - 1) each each (drop 2 rest)
    unfolding blocks_from
    stroke_in zero stroke enough = absurd (omega arith)
    stroke_in (suc turns) stroke enough = let less : suc turns - 1 ≡ turns = omega arith in rw (ne_eqb (length rest) 0 more, stroke, less)

    pub stroke_read : has_stroke rest ≡ true → (after : List ℕ) → after ≡ drop 2 rest → Stands each bytes items rest 0 → Stands each bytes items after each
    stroke_read stroke after e stands = rw e
        record {
          turns = stands.turns - 1;
          enough = omega (arith, stands.enough, length-drop 2 rest);
          all = stands.all ∙ ap (prefixed items) (stroke_in stands.turns stroke stands.enough);
          room = omega (arith, stands.room, length-drop 2 rest);
        }

    no_stroke_in : (turns : ℕ) → has_stroke rest ≡ false → prefixed items (blocks_from turns each 0 rest) ≡ None
    unfolding blocks_from prefixed
    no_stroke_in zero stroke = refl
    no_stroke_in (suc turns) stroke = rw (ne_eqb (length rest) 0 more, stroke)

    pub no_stroke : has_stroke rest ≡ false → Stands each bytes items rest 0 → blocks_in each bytes ≡ None
    no_stroke stroke stands = stands.all ∙ no_stroke_in stands.turns stroke

  -- a number
  number_in_turn : (turns due v : ℕ) → first_number rest ≡ Some v → length rest < turns
      → prefixed items (blocks_from turns each (suc due) rest) ≡ prefixed (items ++ (v ∷ [])) (blocks_from (turns - 1) each due (after_number rest))
  unfolding blocks_from
  number_in_turn zero due v e enough = absurd (omega arith)
  number_in_turn (suc turns) due v e enough = let less : suc turns - 1 ≡ turns = omega arith in rw (e, less) (prefixed_one items v _)

  pub number_read : (due v : ℕ) (after : List ℕ) → first_number rest ≡ Some v → after ≡ after_number rest → ¬ (due ≡ 0) → Stands each bytes items rest due → Stands each bytes (items ++ (v ∷ [])) after (due - 1)
  number_read due v after f e some stands =
      let one : due ≡ suc (due - 1) = omega arith in
      let takes = number_takes rest v f in
      rw e
      record {
        turns = stands.turns - 1;
        enough = omega (arith, stands.enough, takes);
        all = (rw one at stands.all) ∙ number_in_turn stands.turns (due - 1) v f stands.enough;
        room = omega (arith, stands.room, takes, length-append items (v ∷ []));
      }

  no_number_in : (turns due : ℕ) → first_number rest ≡ None → prefixed items (blocks_from turns each (suc due) rest) ≡ None
  unfolding blocks_from prefixed with_number
  no_number_in zero due e = refl
  no_number_in (suc turns) due e = rw e

  pub no_number : (due : ℕ) → first_number rest ≡ None → ¬ (due ≡ 0) → Stands each bytes items rest due → blocks_in each bytes ≡ None
  no_number due e some stands =
      let one : due ≡ suc (due - 1) = omega arith in
      (rw one at stands.all) ∙ no_number_in stands.turns (due - 1) e

-- ---- behind the first word

module _ (each : ℕ) (line : List ℕ) where
  pub row_long : longest_line < length line → row_in each line ≡ None
  unfolding row_in
  row_long long = rw (lt-ltb longest_line (length line) long)

  module _ (fits : length line ≤ longest_line) where
    pub row_alone : length (on_from 32 line) ≡ 0 → row_in each line ≡ Some []
    unfolding row_in
    row_alone none = rw (le-ltb longest_line (length line) fits, none)

    pub row_behind : ¬ (length (on_from 32 line) ≡ 0) → row_in each line ≡ blocks_in each (on_from 32 line)
    unfolding row_in
    row_behind some = rw (le-ltb longest_line (length line) fits, ne_eqb (length (on_from 32 line)) 0 some)

pub rest_fits : (line : List ℕ) → length line ≤ longest_line → length (on_from 32 line) ≤ longest_line
rest_fits line fits = omega (arith, ap length (up_on 32 line), length-append (up_to 32 line) (on_from 32 line))
