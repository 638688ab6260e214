-- A district's leaders, and its table as lists at the places that Arrays gives its entries; and the shares that uses are of limits.
use Rattle.std.specs.Prelude.{ℕ, ◌+◌, ◌*◌, ◌/◌, ◌%◌, List, get_or}
use Rattle.base.specs.Over.{listed, listed_from}
use Rattle.tables.specs.Arrays.{columns, entries, use_entries}
use Rattle.rules.specs.District.{District, leader_of, most_segments, most_resources}
use Rattle.rules.specs.Table.{Table, candidate_benefit, usage_in, limit_in}

unfoldable pub leader_list : District → List ℕ
leader_list d = listed most_segments (leader_of d)

unfoldable pub benefit_entry : District → ℕ → ℕ
benefit_entry d n = candidate_benefit d (n / columns + 1) (n % columns)

unfoldable pub benefit_list : District → List ℕ
benefit_list d = listed_from entries 0 (benefit_entry d)

unfoldable pub usage_entry : District → ℕ → ℕ
usage_entry d n = usage_in d (n / (most_resources * columns) + 1) (n / most_resources % columns) (n % most_resources + 1)

unfoldable pub usage_list : District → List ℕ
usage_list d = listed_from use_entries 0 (usage_entry d)

unfoldable pub limit_list : District → List ℕ
limit_list d = listed most_resources (limit_in d)

-- ---- shares as a quotient q rounds them: of a table, and of uses u and limits l at place n

abbrev pub share_by : (ℕ → ℕ → ℕ) → Table → ℕ → ℕ → ℕ → ℕ
share_by q t i j r = q (t.usage i j r * 10_000) (t.limit r)

unfoldable pub share_entry : (ℕ → ℕ → ℕ) → List ℕ → List ℕ → ℕ → ℕ
share_entry q u l n = q (get_or u n 0 * 10_000) (get_or l (n % most_resources) 0)
