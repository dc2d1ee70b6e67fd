use Rattle.std.proofs.Common.{◌≡◌, ℕ, ◌-◌, List, ◌++◌, length, take, ap, ◌∙◌, subst, arith}
use Rattle.std.proofs.lemmas.List.{take_at}
use Rattle.octets.proofs.Parts.{over_front}
use Rattle.commitments.proofs.put.put_money.Goals as goal

pub returns : goal.returns
returns g c =
    let kind = g.M.Money in
    let bytes = kind.terms.written (kind.asset c.args.amount.now) in
    let width = c.byte_width-width.result in
    let long : length bytes ≡ width - 0 = (let w = g.met.M.Money.long c.args.amount.now in let e = c.byte_width-width.ensures in omega arith) in
    let written : take (width - 0) c.write.new.out ≡ bytes =
    ap (take (width - 0)) (c.write.ensures ∙ over_front _ bytes) ∙ take_at bytes _ (width - 0) long in
    λ start m took.
    let P : List ℕ → Type 0 = λ p. g.S.Sink.took start (m ++ p) c.put.new.self in
    subst P written (c.put.ensures start m took)
