use Rattle.std.proofs.Common.{◌++◌, arith}
use Rattle.std.proofs.lemmas.List.{length-append}
use Rattle.commitments.specs.declared.side.Side.TheVariants.{Funder, Other}
use Rattle.commitments.specs.Headings.{head_bytes, log_bytes}
use Rattle.commitments.proofs.Sizes.{head_long}
use Rattle.commitments.proofs.size.size.Goals as goal

pub returns : goal.returns
returns g c =
    let kind = g.M.Money in
    let log = c.args.funders.now in
    let other = c.args.others.now in
    let head = head_bytes kind c.args.heading.now in
    let own = log_bytes kind Funder log other in
    let far = log_bytes kind Other other log in
    let a = length-append head (own ++ far) in
    let b = length-append own far in
    let d = head_long kind c.args.heading.now kind.terms.width g.met.M.Money.long in
    let width = c.byte_width-amounts.ensures in
    let first = c.log_size.ensures.value Funder in
    let second = c.log_size-2.ensures.value Other in
    omega arith
