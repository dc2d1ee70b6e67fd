use Rattle.std.proofs.Common.{ap, ◌∙◌}
use Rattle.money.specs.Amounts.{limited}
use Rattle.money.proofs.counts.Counts.get.Goals as goal

pub returns : goal.returns
returns g c = c.of.ensures ∙ ap (limited g.row.N 2100000000000000) c.numbers_of.ensures
