use Rattle.std.proofs.Common.{◌*◌}
use Rattle.sha256.specs.Rounds.{Turned}
use Rattle.sha256.proofs.blocks.compress.Given as goal

abbrev pub invariant-loop-i : goal.invariant-loop-i
invariant-loop-i l = Turned l.value l.block (8 * l.i) l.w l.s
