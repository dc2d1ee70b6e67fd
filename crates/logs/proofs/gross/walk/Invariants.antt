use Rattle.std.proofs.Common.{◌≡◌, drop}
use Rattle.logs.specs.Gross.{walked}
use Rattle.logs.specs.Logs.{means}
use Rattle.logs.proofs.gross.walk.Given as goal

abbrev pub invariant-loop-update : goal.invariant-loop-update
invariant-loop-update g l =
    let kind = g.M.Money in
    walked kind.terms (means kind l.other) (kind.asset l.held) (means kind (drop l.update-index l.log)) ≡ walked kind.terms (means kind l.other) (kind.asset l.initial.held) (means kind l.log)
