-- What the code's views of a pass, of two segments and of a look at them stand for.
use Rattle.std.specs.Prelude.{ℕ, Bool, ◌&&◌, List, Option}
use Rattle.base.specs.Over.{all}
use Rattle.rules.specs.Table.{Table}
use Rattle.rules.specs.Phases.{strategy_at, give, singles_of, pairs_of}
use Rattle.tables.specs.declared.Size.{Size}
use Rattle.tables.specs.Moves.{room_for}
use Rattle.tables.specs.Views.{table_in, leaders_in}
use Rattle.phase3.specs.declared.change.Change.{Change}
use Rattle.phase3.specs.declared.change.Change.TheVariants.{Two}
use Rattle.phase3.specs.declared.leaders.Changed.{Changed}
use Rattle.phase3.specs.declared.memory.Row.{Row}
use Rattle.phase3.specs.declared.memory.Memory.{Memory}
use Rattle.phase3.specs.declared.pass.Pass.{Pass}
use Rattle.phase3.specs.declared.pair.Pair.{Pair}
use Rattle.phase3.specs.declared.look.Look.{Look}
use Rattle.phase3.specs.declared.trial.Trial.{Trial}
use Rattle.phase3.specs.Improve.{after, Found}
use Rattle.phase3.specs.Memory.{same_strategies, below, excess_of, Holds, Remembers, Searching, Refusal, WithTest, PairTest}

-- a programme after its change
abbrev pub changed : Changed → List ℕ
changed x = after x.choice.now x.change

-- the table and the leaders of a pass, and the programme as it stands
abbrev pub table_of : Pass → Table
table_of p = table_in p.planning.now.t

abbrev pub leaders_of : Pass → ℕ → ℕ
leaders_of p = leaders_in p.planning.now.t

abbrev pub choice_of : Pass → List ℕ
choice_of p = p.planning.now.draft.choice

-- the same of a look
abbrev pub size_at : Look → Size
size_at l = l.pair.now.pass.now.planning.now.t.size

abbrev pub table_at : Look → Table
table_at l = table_of l.pair.now.pass.now

abbrev pub leaders_at : Look → ℕ → ℕ
leaders_at l = leaders_of l.pair.now.pass.now

abbrev pub choice_at : Look → List ℕ
choice_at l = choice_of l.pair.now.pass.now

-- x is what a search of the rules finds where a pass stands
abbrev pub FoundBy : (Table → (ℕ → ℕ) → List ℕ → Option (List ℕ)) → Pass → Option Change → Type 0
FoundBy search p x = Found p.planning.now.t.size (choice_of p) x (search (table_of p) (leaders_of p) (choice_of p))

-- the searches of one segment, and of two
abbrev pub of_segment : ℕ → Table → (ℕ → ℕ) → List ℕ → Option (List ℕ)
of_segment i t leader c = singles_of t leader c i

abbrev pub of_pair : ℕ → ℕ → Table → (ℕ → ℕ) → List ℕ → Option (List ℕ)
of_pair i k t leader c = pairs_of t leader c i k

abbrev pub FoundAt : Pair → Option Change → Type 0
FoundAt p x = FoundBy (of_pair p.i p.k) p.pass.now x

-- every row of the memory holds for a pass's table and leaders
abbrev pub Kept : Pass → Memory → Type 0
Kept p memory = Remembers (table_of p) (leaders_of p) memory.rows

-- a row still holds for two segments
abbrev pub holds_still : Pair → Row → Bool
holds_still p row =
    let c = choice_of p.pass.now in
    same_strategies row.holds_for (strategy_at c p.i) (strategy_at c p.k) && all p.pass.now.planning.now.t.size.resources (below p.pass.now.slacks row)

-- a look's row: that it holds, and where the search of its strategies stands
abbrev pub HoldsAt : Look → Row → Type 0
HoldsAt l row = Holds (table_at l) (leaders_at l) l.pair.now.i l.pair.now.k row

abbrev pub SearchingAt : Look → Row → ℕ → Type 0
SearchingAt l row a = Searching (table_at l) (leaders_at l) (choice_at l) l.pair.now.i l.pair.now.k row a

-- the test of a first strategy
abbrev pub WithTestAt : Look → ℕ → Row → Row → Bool → Type 0
WithTestAt l a row next may = WithTest (table_at l) (choice_at l) l.pair.now.i l.pair.now.k a row next may

-- a trial's change, the test of its limits, and that of the change
abbrev pub tried : Trial → List ℕ
tried x = let l = x.look.now in give (give (choice_at l) l.pair.now.i x.a) l.pair.now.k x.b

abbrev pub change_of : Trial → Change
change_of x = let p = x.look.now.pair.now in Two (record { 0 = p.i; 1 = x.a }) (record { 0 = p.k; 1 = x.b })

abbrev pub RefusalIn : Trial → Row → Row → Bool → Type 0
RefusalIn x row next refused = let l = x.look.now in Refusal (table_at l) (choice_at l) l.pair.now.i l.pair.now.k x.a x.b row next refused

abbrev pub PairTestIn : Trial → Row → Row → Bool → Type 0
PairTestIn x row next ok = let l = x.look.now in PairTest (table_at l) (leaders_at l) (choice_at l) l.pair.now.i l.pair.now.k x.a x.b row next ok

-- resource r suffices in a trial, and the excess there
abbrev pub room_at : Trial → ℕ → Bool
room_at x r =
    let l = x.look.now in
    let p = l.pair.now in
    let planning = p.pass.now.planning.now in
    room_for planning.t.uses.entries.now planning.draft.sums l.given p.i x.a p.k x.b r

abbrev pub excess_at : Trial → ℕ → ℕ
excess_at x r =
    let l = x.look.now in
    let p = l.pair.now in
    let t = p.pass.now.planning.now.t in
    excess_of t.uses.entries.now t.limits.entries.now l.given p.i x.a p.k x.b r
