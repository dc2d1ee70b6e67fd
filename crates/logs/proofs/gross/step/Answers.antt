use Rattle.std.proofs.Common.{sym, ap, ◌∙◌}
use Rattle.std.proofs.lemmas.Bool.{cond-true, cond-false}
use Rattle.logs.specs.Gross.{lessened, moved}
use Rattle.logs.specs.Logs.{mean, means, failed}
use Rattle.logs.proofs.gross.step.Goals as goal

pub returns-then-has : goal.returns-then-has
returns-then-has g c =
    let kind = g.M.Money in
    let other = means kind c.args.other.now in
    let held = kind.asset c.args.held in
    sym (cond-true (failed other c.in-Add.id) held (lessened kind.terms held (kind.asset c.in-Add.amount)) (sym c.if-has.ensures))
    ∙ ap (λ u. moved kind.terms other held (mean kind u)) (sym c.in-Add.is)

pub returns-else-has : goal.returns-else-has
returns-else-has g c =
    let kind = g.M.Money in
    let other = means kind c.args.other.now in
    let held = kind.asset c.args.held in
    c.lessen.ensures
    ∙ sym (cond-false (failed other c.in-Add.id) held (lessened kind.terms held (kind.asset c.in-Add.amount)) (sym c.if-has.ensures))
    ∙ ap (λ u. moved kind.terms other held (mean kind u)) (sym c.in-Add.is)
