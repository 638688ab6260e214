-- What the code's own changes stand for, and each segment's greatest benefit.
use Rattle.std.specs.Prelude.{ℕ, ◌+◌, ◌-◌, ◌≤◌, ◌<◌, ◌≡◌, Bool, ◌&&◌, List, ltb, get_or, length}
use Rattle.std.specs.Prelude.{Option, None, Some, IfSome}
use Rattle.base.specs.Over.{most}
use Rattle.rules.specs.District.{most_segments}
use Rattle.rules.specs.Table.{Table}
use Rattle.rules.specs.Phases.{strategy_at, give, another, counts}
use Rattle.tables.specs.declared.Size.{Size}
use Rattle.tables.specs.declared.Move.{Move}
use Rattle.tables.specs.Arrays.{benefit_at}
use Rattle.tables.specs.Moves.{Inside}
use Rattle.phase3.specs.declared.change.Change.{Change}
use Rattle.phase3.specs.declared.change.Change.TheVariants.{One, Two}

-- programme c after a move, and after a change
abbrev pub after_move : List ℕ → Move → List ℕ
after_move c m = give c m.0 m.1

abbrev pub after : List ℕ → Change → List ℕ
after c (One m) = after_move c m
after c (Two m n) = after_move (after_move c m) n

-- the same as the rules give it: none where there is no change
abbrev pub made : List ℕ → Option Change → Option (List ℕ)
made c None = None
made c (Some x) = Some (after c x)

-- the segments that change, which may be one; two numbers, since a fact that went by cases would be no ghost field
abbrev pub first_segment : Change → ℕ
first_segment (One m) = m.0
first_segment (Two m n) = m.0

abbrev pub last_segment : Change → ℕ
last_segment (One m) = m.0
last_segment (Two m n) = n.0

-- a change's numbers are the table's
abbrev pub InTable : Size → Change → Type 0
InTable z (One m) = Inside z m
InTable z (Two m n) = Inside z m × Inside z n × (m.0 < n.0)

-- x is what a search of the rules found from programme c
pub record Found (z : Size) (c : List ℕ) (x : Option Change) (search : Option (List ℕ)) : Type 0 where
  pub is : made c x ≡ search
  pub inside : IfSome x (InTable z)

-- a single change, and a pair, that the search takes
abbrev pub counts_one : Table → (ℕ → ℕ) → List ℕ → ℕ → ℕ → Bool
counts_one t leader c i a = another t c i a && counts t leader c (give c i a)

abbrev pub counts_two : Table → (ℕ → ℕ) → List ℕ → ℕ → ℕ → ℕ → ℕ → Bool
counts_two t leader c i k a b = another t c i a && (another t c k b && counts t leader c (give (give c i a) k b))

-- the greatest of segment i's benefits
abbrev pub top : Table → ℕ → ℕ
top t i = most t.strategies (t.benefit i)

pub record Tops (z : Size) (b tops : List ℕ) : Type 0 where
  pub places : length tops ≡ most_segments
  pub each : (i : ℕ) → 1 ≤ i → i ≤ z.segments → get_or tops (i - 1) 0 ≡ most z.strategies (benefit_at b i)

-- the present benefit of segments i and k
abbrev pub present : Table → List ℕ → ℕ → ℕ → ℕ
present t c i k = t.benefit i (strategy_at c i) + t.benefit k (strategy_at c k)

-- without this no change of segments i and k counts
abbrev pub pair_may_rise : Table → List ℕ → ℕ → ℕ → Bool
pair_may_rise t c i k = ltb (present t c i k) (top t i + top t k)
