use Rattle.std.proofs.Common.{not, sym, ap, ◌∙◌}
use Rattle.logs.specs.Logs.{mean, means, pending}
use Rattle.logs.proofs.gross.is_pending.Goals as goal

pub returns-in-Add : goal.returns-in-Add
returns-in-Add g c =
    let kind = g.M.Money in
    ap not c.is_resolved.ensures ∙ ap (λ u. pending (means kind c.args.other.now) (mean kind u)) (sym c.in-Add.is)
