use Rattle.std.proofs.Common.{◌≡◌, ℕ, List, ◌++◌, length}
use Rattle.sha256.specs.Stream.{Absorbed}
use Rattle.sha256.proofs.hasher.Hasher.absorb.Given as goal

abbrev pub invariant-loop-rest : goal.invariant-loop-rest
invariant-loop-rest l =
    (front : List ℕ) × (front ++ l.rest ≡ l.bytes) × ((m : List ℕ) → Absorbed l.initial.self m → Absorbed l.self (m ++ front))

abbrev pub decreases-loop-rest : goal.decreases-loop-rest
decreases-loop-rest l = length l.rest
