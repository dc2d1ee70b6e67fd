use Rattle.std.proofs.Common.{◌≡◌}
use Rattle.secrets.specs.Derivation.{derived}
use Rattle.secrets.proofs.derivation.derive.Given as goal

abbrev pub invariant-loop-bit : goal.invariant-loop-bit
invariant-loop-bit l = derived l.derived l.index l.bit ≡ derived l.initial.derived l.index l.bits
