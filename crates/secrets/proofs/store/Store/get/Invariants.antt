use Rattle.std.proofs.Common.{◌≡◌, ◌<◌, length}
use Rattle.secrets.proofs.Places.{SoFar}
use Rattle.secrets.proofs.store.Store.get.Given as goal

-- A place that was read shows how many there are.
abbrev pub invariant-loop-bits : goal.invariant-loop-bits
invariant-loop-bits l = SoFar l.self.places l.index l.bits × (0 < l.bits → length l.self.places ≡ 49)
