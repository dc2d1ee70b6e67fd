use Rattle.std.proofs.Common.{◌≡◌}
use Rattle.bench_sha256.specs.Chain.{chain}
use Rattle.bench_sha256.proofs.chained.Given as goal

abbrev pub invariant-loop : goal.invariant-loop
invariant-loop l = l.value ≡ chain l.counter
