-- `fill::Arrays::fill` meets its contract.
use Rattle.grammar.specs.Ranges.{Ranges}
use Rattle.rules.specs.District.{District}
use Rattle.fill.specs.Filled.{Filled}
use Rattle.fill.specs.Lists.{leader_list, benefit_list, usage_list, limit_list}
use Rattle.fill.proofs.Leaders.{leaders_are, leaders_held}
use Rattle.fill.proofs.Tables.{size_of, table_is, tabled, fit_alone}
use Rattle.fill.proofs.Arrays.fill.Goals as goal

filled : (d : District) → Ranges d → Filled d (size_of d) (leader_list d) (benefit_list d) (usage_list d) (limit_list d)
filled d ok = record { leader = leaders_are d ok; leaders = leaders_held d ok; table = table_is d ok; tabled = tabled d ok; fit = fit_alone d ok }

pub returns : goal.returns
returns c = rw (c.leaders_of-self.ensures, c.fill_benefits.ensures, c.fill_uses.ensures, c.limits_of-self.ensures) (filled _ c.args.d.in_range)
