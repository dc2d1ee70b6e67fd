use Rattle.std.proofs.Common.{refl}
use Rattle.sha256.specs.Fips.{initial, after, hash_value}
use Rattle.sha256.proofs.blocks.initial_value.Goals as goal

pub returns : goal.returns
unfolding initial after hash_value
returns c = refl
