use Rattle.std.proofs.Common.{◌≡◌, drop}
use Rattle.logs.specs.Logs.{means, amount_of}
use Rattle.logs.proofs.scan.amount_of.Given as goal

abbrev pub invariant-loop-update : goal.invariant-loop-update
invariant-loop-update g l = amount_of (means g.M.Money (drop l.update-index l.log)) l.id ≡ amount_of (means g.M.Money l.log) l.id
