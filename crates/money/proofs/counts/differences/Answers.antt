use Rattle.std.proofs.Common.{◌≡◌, ◌-◌, slice_index, rules, arith}
use Rattle.money.specs.Eights.{row_past}
use Rattle.money.proofs.Rows.{filled_each, row_is}
use Rattle.money.proofs.counts.differences.Goals as goal

pub returns : goal.returns
returns g c =
    let a = c.args.ours.now in
    let b = c.args.theirs.now in
    let made = c.from_fn.ensures.items in
    row_is g.row.N c.from_fn.result (λ k. slice_index a k - slice_index b k) made.long
    (λ k l. filled_each _ _ (λ i y. y ≡ slice_index a i - slice_index b i) (λ i y q call. search rules) c.from_fn.result g.row.N 0 made.each k (omega arith) (omega arith))
    (λ k l. let x = row_past g.row.N a (omega arith) k l in omega arith)
