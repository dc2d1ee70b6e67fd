use Rattle.std.proofs.Common.{◌≡◌, ◌+◌, ◌-◌, length, take, refl, ap, ◌∙◌, arith}
use Rattle.std.proofs.lemmas.List.{take_all}
use Rattle.logs.specs.Gross.{walked}
use Rattle.logs.specs.Logs.{means, pending_count}
use Rattle.commitments.specs.Commitments.{fee_of}
use Rattle.commitments.proofs.Listing.{both_listed}
use Rattle.commitments.proofs.draft.Draft.heading.Goals as goal

pub returns : goal.returns
returns g c =
    let kind = g.M.Money in
    let own = c.args.self.now.funders.now in
    let far = c.args.self.now.others.now in
    let opening = c.args.self.now.opening.now in
    let log = means kind own in
    let other = means kind far in
    let whole : means kind (take (length own) own) ≡ log = ap (means kind) (take_all (length own) own (omega arith)) in
    let whole_far : means kind (take (length far) far) ≡ other = ap (means kind) (take_all (length far) far (omega arith)) in
    let gross = c.reckon-mine.ensures.gross ∙ ap (walked kind.terms other (kind.asset opening.funders)) whole in
    let others = c.reckon-theirs.ensures.gross ∙ ap (walked kind.terms log (kind.asset opening.others)) whole_far in
    let first = c.reckon-mine.ensures.pending ∙ ap (pending_count other) whole in
    let second = c.reckon-theirs.ensures.pending ∙ ap (pending_count log) whole_far in
    let count = (λ i. first i + second i) ∙ both_listed log other in
    let rate = c.rate_after-rate.ensures in
    record {
      number = refl;
      holder = refl;
      rate = rate;
      fee = c.price-priced.ensures.fee ∙ (λ i. fee_of (rate i) (count i) (gross i));
      funders = c.price-priced.ensures.output ∙ (λ i k. gross i k - fee_of (rate i) (count i) (gross i) k);
      others = others;
      pending = count;
      few = (let a = c.reckon-mine.ensures.bound in let b = c.reckon-theirs.ensures.bound in omega arith);
    }
