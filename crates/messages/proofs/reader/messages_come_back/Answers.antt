use Rattle.std.proofs.Common.{ap, ◌∙◌}
use Rattle.money.specs.Amounts.{limited}
use Rattle.money.proofs.Contains.{given}
use Rattle.messages.proofs.RoundTrip.{reads_back, bytes_back_again}
use Rattle.messages.proofs.reader.messages_come_back.Goals as goal

pub returns : goal.returns
returns g c =
    let kind = g.M.Money in
    let laws = g.met.M.Money in
    let assets = kind.terms.assets in
    let limit = kind.terms.limit in
    record {
      message = reads_back kind.terms.width;
      amount = λ x. ap (limited assets limit) (laws.back x) ∙ given assets (λ _. limit) (kind.asset x) (kind.asset x) (λ k l. laws.within x k);
      bytes = bytes_back_again kind.terms.width;
    }
