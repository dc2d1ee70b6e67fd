use Rattle.commitments.proofs.Fees.{fee_comes_off}
use Rattle.commitments.proofs.price.price.Goals as goal

pub unreachable-requires : goal.unreachable-requires
unreachable-requires g c =
    let kind = g.M.Money in
    fee_comes_off kind.terms.assets c.fee_units.result (kind.asset c.args.gross.now) (kind.asset c.units-fee.result) c.units-fee.ensures c.in-None.ensures
