use Rattle.std.proofs.Common.{◌≡◌, rules, arith}
use Rattle.money.specs.Amounts.{row, units_from}
use Rattle.money.specs.Eights.{row_past}
use Rattle.money.proofs.Rows.{filled_each, row_is, units_within}
use Rattle.money.proofs.counts.units_of.Goals as goal

pub returns : goal.returns
returns g c =
    let held = c.args.held.now in
    let made = c.from_fn.ensures.items in
    row_is g.row.N c.from_fn.result (units_from c.args.count (row held)) made.long
    (λ k l. filled_each _ _ (λ i y. y ≡ units_from c.args.count (row held) i) (λ i y q call. search rules) c.from_fn.result g.row.N 0 made.each k (omega arith) (omega arith))
    (λ k l. let none = row_past g.row.N held (omega arith) k l in let less = units_within c.args.count (row held) k in omega arith)
