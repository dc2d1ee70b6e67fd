use Rattle.std.proofs.Common.{◌≡◌}
use Rattle.octets.specs.Places.{over}
use Rattle.money.specs.Terms.{eight_each}
use Rattle.money.specs.Amounts.{row}
use Rattle.money.proofs.counts.Counts.put.Given as goal

abbrev pub invariant-loop-i : goal.invariant-loop-i
invariant-loop-i g l = l.out ≡ over l.initial.out l.at (eight_each l.i (row l.self.counts))
