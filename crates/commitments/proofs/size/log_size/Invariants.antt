use Rattle.std.proofs.Common.{◌≡◌, ◌*◌, ◌≤◌, length}
use Rattle.logs.specs.Logs.{means}
use Rattle.commitments.specs.declared.side.Side.{Side}
use Rattle.commitments.proofs.Listing.{so_far}
use Rattle.commitments.proofs.size.log_size.Given as goal

abbrev pub invariant-loop-update : goal.invariant-loop-update
invariant-loop-update g l = ((side : Side) → l.size ≡ length (so_far g.M.Money side (means g.M.Money l.other) l.log l.update-index)) × (l.size ≤ 1063 * l.update-index)
