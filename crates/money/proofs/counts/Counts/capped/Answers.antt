use Rattle.std.proofs.Common.{ap, arith}
use Rattle.money.specs.Amounts.{row}
use Rattle.money.proofs.Rows.{units_within}
use Rattle.money.proofs.counts.Counts.capped.Goals as goal

pub invariant_of-result : goal.invariant_of-result
invariant_of-result g c =
    record {
      ok = (
        omega arith,
        (λ k. let held = row c.args.balance.now.counts in let most = c.args.balance.now.ok.1 k in let less = units_within c.args.count held k in let is = ap (λ f. f k) c.units_of.ensures in omega arith),
      );
    }
