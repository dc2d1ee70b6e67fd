use Rattle.std.proofs.Common.{◌≡◌, drop}
use Rattle.std.specs.List.{list_any}
use Rattle.logs.specs.Logs.{means}
use Rattle.logs.specs.Resolutions.{resolves}
use Rattle.logs.proofs.scan.has.Given as goal

abbrev pub invariant-loop-update : goal.invariant-loop-update
invariant-loop-update g l = list_any (resolves l.way l.id) (means g.M.Money (drop l.update-index l.log)) ≡ list_any (resolves l.way l.id) (means g.M.Money l.log)
