use Rattle.std.proofs.Common.{◌≡◌, ◌*◌, ◌%◌, ◌^◌, ◌<◌}
use Rattle.locks.proofs.power.power.Given as goal

abbrev pub invariant-loop-left : goal.invariant-loop-left
invariant-loop-left l =
    ((l.result * l.square ^ l.left) % l.modulus ≡ l.base ^ l.exponent % l.modulus) × (l.result < l.modulus) × (l.square < l.modulus)

abbrev pub decreases-loop-left : goal.decreases-loop-left
decreases-loop-left l = l.left
