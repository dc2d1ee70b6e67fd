use Rattle.std.proofs.Common.{length, sym, ap, ◌∙◌, arith}
use Rattle.logs.specs.Logs.{mean, means}
use Rattle.commitments.specs.Commitments.{listed_one}
use Rattle.commitments.specs.Payments.{payment}
use Rattle.commitments.proofs.Listing.{bytes_of_all, listed_none, listed_some}
use Rattle.commitments.proofs.Sizes.{payment_long}
use Rattle.commitments.proofs.size.update_size.Goals as goal

pub returns-then-is_resolved : goal.returns-then-is_resolved
returns-then-is_resolved g c =
    let kind = g.M.Money in
    let other = means kind c.args.other.now in
    let add = c.in-Add in
    record {
      value = λ side.
          sym (ap length (
          ap (λ u. bytes_of_all kind.terms side other (listed_one side other (mean kind u))) add.is
          ∙ listed_none kind.terms side other add.id (kind.asset add.amount) add.value add.expiry add.incoming (sym c.if-is_resolved.ensures)));
      bound = omega arith;
    }

pub returns-else-is_resolved : goal.returns-else-is_resolved
returns-else-is_resolved g c =
    let kind = g.M.Money in
    let other = means kind c.args.other.now in
    let add = c.in-Add in
    let width = c.byte_width.ensures in
    let most = g.met.M.Money.width in
    record {
      value = λ side.
          let wide = g.met.M.Money.long add.amount in
          let value = c.value_size.ensures.value in
          let long = payment_long kind.terms (payment side add.id (kind.asset add.amount) add.value add.expiry) in
          let is = ap length (
          ap (λ u. bytes_of_all kind.terms side other (listed_one side other (mean kind u))) add.is
          ∙ listed_some kind.terms side other add.id (kind.asset add.amount) add.value add.expiry add.incoming (sym c.if-is_resolved.ensures)) in
          omega arith;
      bound = omega arith;
    }
