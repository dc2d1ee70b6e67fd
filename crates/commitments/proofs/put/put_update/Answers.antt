use Rattle.std.proofs.Common.{[], sym, ap, ◌∙◌}
use Rattle.logs.specs.Logs.{mean, means}
use Rattle.commitments.specs.Bytes.{payment_bytes}
use Rattle.commitments.specs.Commitments.{listed_one}
use Rattle.commitments.specs.Payments.{payment}
use Rattle.commitments.proofs.Fills.{puts_same, puts_none}
use Rattle.commitments.proofs.Listing.{bytes_of_all, listed_none, listed_some}
use Rattle.commitments.proofs.put.put_update.Goals as goal

pub returns-then-not-is_resolved : goal.returns-then-not-is_resolved
returns-then-not-is_resolved g c =
    let kind = g.M.Money in
    let side = c.args.side in
    let other = means kind c.args.other.now in
    let add = c.in-Add in
    let update = ap (λ u. bytes_of_all kind.terms side other (listed_one side other (mean kind u))) add.is in
    let some = listed_some kind.terms side other add.id (kind.asset add.amount) add.value add.expiry add.incoming (sym c.if-not-is_resolved.ensures) in
    puts_same g.S.Sink.took _ _ (payment_bytes kind.terms (payment side add.id (kind.asset add.amount) add.value add.expiry)) _ (sym (update ∙ some)) c.put_payment.ensures

pub returns-else-not-is_resolved : goal.returns-else-not-is_resolved
returns-else-not-is_resolved g c =
    let kind = g.M.Money in
    let side = c.args.side in
    let other = means kind c.args.other.now in
    let add = c.in-Add in
    let update = ap (λ u. bytes_of_all kind.terms side other (listed_one side other (mean kind u))) add.is in
    let none = listed_none kind.terms side other add.id (kind.asset add.amount) add.value add.expiry add.incoming (sym c.if-not-is_resolved.ensures) in
    puts_same g.S.Sink.took _ _ [] _ (sym (update ∙ none)) (puts_none g.S.Sink.took _)
