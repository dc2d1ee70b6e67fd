use Rattle.std.proofs.Common.{◌≡◌, ◌*◌, arith, rules}
use Rattle.octets.specs.Numbers.{number_of}
use Rattle.octets.specs.Places.{part}
use Rattle.money.specs.Terms.{eights}
use Rattle.money.specs.Eights.{eight_past}
use Rattle.money.proofs.Rows.{filled_each, row_is}
use Rattle.money.proofs.counts.numbers_of.Goals as goal

pub returns : goal.returns
returns g c =
    let bs = c.args.bytes.now in
    let made = c.from_fn.ensures.items in
    row_is g.row.N c.from_fn.result ((eights g.row.N).stands bs) made.long
    (λ k l. filled_each _ _ (λ i y. y ≡ number_of (part (8 * i) 8 bs)) (λ i y q call. search rules) c.from_fn.result g.row.N 0 made.each k (omega arith) (omega arith))
    (eight_past g.row.N bs c.requires)
