use Rattle.std.proofs.Common.{[], ◌∷◌, ◌++◌}
use Rattle.octets.specs.Numbers.{bytes_of}
use Rattle.commitments.specs.Bytes.{side_byte}
use Rattle.commitments.proofs.Fills.{puts_then}
use Rattle.commitments.proofs.put.put_payment.Goals as goal

pub returns : goal.returns
returns g c =
    let took = g.S.Sink.took in
    let kind = g.M.Money in
    let id = bytes_of 2 c.args.id in
    let amount = kind.terms.written (kind.asset c.args.amount.now) in
    let value = c.args.value.now in
    let expiry = bytes_of 4 c.args.expiry in
    puts_then took _ _ _ (side_byte c.args.side ∷ []) (id ++ (amount ++ (value ++ expiry))) c.put_side.ensures
    (puts_then took _ _ _ id (amount ++ (value ++ expiry)) c.put_number.ensures
    (puts_then took _ _ _ amount (value ++ expiry) c.put_money.ensures
    (puts_then took _ _ _ value expiry c.put.ensures c.put_number-2.ensures)))
