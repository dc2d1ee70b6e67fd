use Rattle.std.proofs.Common.{refl, add-one}
use Rattle.bench_sha256.specs.Chain.{chain}
use Rattle.bench_sha256.proofs.chained.Goals as goal

pub loop-init : goal.loop-init
unfolding chain
loop-init c = refl

pub loop-preserved : goal.loop-preserved
unfolding chain
loop-preserved c = rw (add-one c.loop.counter) (cc)
