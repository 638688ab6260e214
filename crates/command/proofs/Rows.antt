-- The rows of the table, by the names that they stand for.
use Rattle.std.proofs.Common.{ℕ, zero, suc, ◌≡◌, ◌≤◌, Bool, true, false, List, [], ◌∷◌, Option, None, Some, drop, map, cond, ◌&&◌, eqb, refl, sym, ap, ◌∙◌, arith}
use denote.Ref.{Bor}
use lib.Pointwise.{pointwise}
use borrow.Author.Tests.{true-ltb, false-ltb}
use Rattle.std.specs.Prelude.{ltb, length, get_or}
use Rattle.std.specs.Option.{is_some, IfSome, option_copied}
use Rattle.std.proofs.lemmas.Option.{slice_get_past, slice_get-get_or}
use Rattle.std.specs.List.{find, slice_get}
use Rattle.base.specs.Choice.{pick}
use Rattle.base.specs.Same.{same}
use Rattle.command.specs.declared.Command.{Command}
use Rattle.command.specs.declared.Name.{Name}
use Rattle.command.specs.Reading.{row, rows, row_of, names, made, first_made, numbered, word_of, taken, meant, called, count_of}

row_name : (n : Name) → (row_of n).name ≡ n
unfolding row
row_name Name.Load = refl
row_name Name.Export = refl
row_name Name.Bar = refl
row_name Name.Unbar = refl
row_name Name.Limit = refl
row_name Name.Rating = refl
row_name Name.Show = refl
row_name Name.Points = refl
row_name Name.Page = refl
row_name Name.Why = refl
row_name Name.Index = refl
row_name Name.Marker = refl
row_name Name.Lost = refl
row_name Name.Roughness = refl
row_name Name.Leader = refl
row_name Name.Office = refl
row_name Name.Queue = refl
row_name Name.Step = refl
row_name Name.Blocks = refl

pub few_taken : (n : Name) → count_of (row_of n).takes ≤ 4
unfolding row
few_taken Name.Load = omega arith
few_taken Name.Export = omega arith
few_taken Name.Bar = omega arith
few_taken Name.Unbar = omega arith
few_taken Name.Limit = omega arith
few_taken Name.Rating = omega arith
few_taken Name.Show = omega arith
few_taken Name.Points = omega arith
few_taken Name.Page = omega arith
few_taken Name.Why = omega arith
few_taken Name.Index = omega arith
few_taken Name.Marker = omega arith
few_taken Name.Lost = omega arith
few_taken Name.Roughness = omega arith
few_taken Name.Leader = omega arith
few_taken Name.Office = omega arith
few_taken Name.Queue = omega arith
few_taken Name.Step = omega arith
few_taken Name.Blocks = omega arith

-- ---- by the row's number

-- what the library tells of a slice's entry
pub name_at : (ns : List Name) (i : ℕ) (r : Option (Bor Name)) → is_some r ≡ ltb i (length ns) → IfSome r (λ x. x.now ≡ get_or ns i x.now) → option_copied r ≡ slice_get ns i
name_at ns i None some entry = sym (slice_get_past ns i (false-ltb i (length ns) some))
name_at ns i (Some n) some entry = ap Some entry ∙ sym (slice_get-get_or ns i n.now (true-ltb i (length ns) some))

first_at : (ns : List Name) (i : ℕ) (n : Name) (v : ℕ → ℕ) → slice_get ns i ≡ Some n → first_made (drop i (map row_of ns)) v ≡ made n v
unfolding first_made
first_at [] i n v e = cc
first_at (m ∷ ns) zero n v e = let z : m ≡ n = cc in rw (row_name m, z)
first_at (m ∷ ns) (suc i) n v e = first_at ns i n v e

none_at : (ns : List Name) (i : ℕ) (v : ℕ → ℕ) → slice_get ns i ≡ None → first_made (drop i (map row_of ns)) v ≡ Command.Unknown
unfolding first_made
none_at [] zero v e = refl
none_at [] (suc i) v e = refl
none_at (m ∷ ns) zero v e = cc
none_at (m ∷ ns) (suc i) v e = none_at ns i v e

pub numbered_at : (i : ℕ) (n : Name) (v : ℕ → ℕ) → slice_get names i ≡ Some n → numbered i v ≡ made n v
unfolding numbered rows
numbered_at i n v e = first_at names i n v e

pub numbered_past : (i : ℕ) (v : ℕ → ℕ) → slice_get names i ≡ None → numbered i v ≡ Command.Unknown
unfolding numbered rows
numbered_past i v e = none_at names i v e

-- ---- by the word

-- the library's equality of slices
pub same_is : (xs ys : List ℕ) → pointwise eqb xs ys ≡ same xs ys
unfolding same
same_is [] [] = refl
same_is [] (y ∷ ys) = refl
same_is (x ∷ xs) [] = refl
same_is (x ∷ xs) (y ∷ ys) = ap (λ t. eqb x y && t) (same_is xs ys)

-- whether the word is the name's
abbrev pub says : List ℕ → Name → Bool
says word n = same word (row_of n).word

-- of the first whose word it is, with what its line says
abbrev pub meant_of : Option Name → List ℕ → Command
meant_of None line = Command.Unknown
meant_of (Some n) line = meant n (taken (row_of n).takes line)

called_of : (ns : List Name) (line : List ℕ) → called (map row_of ns) line ≡ meant_of (find (says (word_of line)) ns) line
unfolding called
called_of [] line = refl
called_of (n ∷ ns) line = rw (row_name n, called_of ns line) (go (says (word_of line) n))
  where
    go : (t : Bool) → pick t (meant_of (Some n) line) (meant_of (find (says (word_of line)) ns) line) ≡ meant_of (cond t (Some n) (find (says (word_of line)) ns)) line
    go true = refl
    go false = refl

-- by the first name that the word says
pub called_by : (line word : List ℕ) (o : Option Name) → word ≡ word_of line → o ≡ find (says word) names → called rows line ≡ meant_of o line
unfolding rows
called_by line word o e f = called_of names line ∙ ap (λ w. meant_of (find (says w) names) line) (sym e) ∙ ap (λ p. meant_of p line) (sym f)
