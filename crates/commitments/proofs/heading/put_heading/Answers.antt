use Rattle.std.proofs.Common.{[], ◌∷◌, ◌++◌}
use Rattle.octets.specs.Numbers.{bytes_of}
use Rattle.commitments.specs.Bytes.{side_byte}
use Rattle.commitments.proofs.Fills.{puts_then}
use Rattle.commitments.proofs.heading.put_heading.Goals as goal

pub returns : goal.returns
returns g c =
    let took = g.S.Sink.took in
    let kind = g.M.Money in
    let h = c.args.heading.now in
    let number = bytes_of 8 h.number in
    let holder = side_byte h.holder ∷ [] in
    let rate = bytes_of 4 h.rate in
    let fee = kind.terms.written (kind.asset h.fee) in
    let funders = kind.terms.written (kind.asset h.funders) in
    let others = kind.terms.written (kind.asset h.others) in
    let count = bytes_of 2 h.pending in
    puts_then took _ _ _ number (holder ++ (rate ++ (fee ++ (funders ++ (others ++ count))))) c.put_number.ensures
    (puts_then took _ _ _ holder (rate ++ (fee ++ (funders ++ (others ++ count)))) c.put_side.ensures
    (puts_then took _ _ _ rate (fee ++ (funders ++ (others ++ count))) c.put_number-2.ensures
    (puts_then took _ _ _ fee (funders ++ (others ++ count)) c.put_money.ensures
    (puts_then took _ _ _ funders (others ++ count) c.put_money-2.ensures
    (puts_then took _ _ _ others count c.put_money-3.ensures c.put_number-3.ensures)))))
