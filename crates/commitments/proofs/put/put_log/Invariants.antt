use Rattle.logs.specs.Logs.{means}
use Rattle.commitments.specs.Sinks.{Puts}
use Rattle.commitments.proofs.Listing.{so_far}
use Rattle.commitments.proofs.put.put_log.Given as goal

abbrev pub invariant-loop-update : goal.invariant-loop-update
invariant-loop-update g l = Puts g.S.Sink.took l.initial.sink (so_far g.M.Money l.side (means g.M.Money l.other) l.log l.update-index) l.sink
