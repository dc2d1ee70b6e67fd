use Rattle.std.proofs.Common.{rules}
use Rattle.std.proofs.lemmas.List.Folds.{flat_map-map}
use Rattle.octets.specs.Numbers.{bytes_of}
use Rattle.sha256.specs.Fips.{hash}
use Rattle.sha256.proofs.Arrays.{map_list}
use Rattle.sha256.proofs.blocks.digest_of.Goals as goal

pub returns : goal.returns
unfolding hash
returns c m h =
    let fours = map_list (bytes_of 4) (λ x y q called. search rules) 0 (search rules) c.map.ensures.items in
    let flat = flat_map-map (λ x. x) (bytes_of 4) c.args.value in
    cc
