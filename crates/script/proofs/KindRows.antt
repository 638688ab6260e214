-- The kinds whose rows do not say all stand so in the table of words.
use Rattle.std.specs.Prelude.{[], ◌∷◌, map, ◌≡◌, refl, take, drop}
use Rattle.command.specs.Reading.{Row, row, rows}
use Rattle.command.specs.declared.Name.{Name}
use Rattle.script.specs.Script.{load_kind, queue_kind, step_kind, blocks_kind}

pub kinds :
    map (λ n. map (λ (r : Row). r.name) (take 1 (drop n rows))) (load_kind ∷ queue_kind ∷ step_kind ∷ blocks_kind ∷ [])
    ≡ (Name.Load ∷ []) ∷ (Name.Queue ∷ []) ∷ (Name.Step ∷ []) ∷ (Name.Blocks ∷ []) ∷ []
unfolding row rows
kinds = refl
