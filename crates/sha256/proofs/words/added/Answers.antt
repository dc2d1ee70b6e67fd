use Rattle.std.proofs.Common.{rules}
use Rattle.std.specs.List.{slice_index}
use Rattle.sha256.specs.Fips.{add, sums}
use Rattle.sha256.proofs.Arrays.{from_fn_list}
use Rattle.sha256.proofs.words.added.Goals as goal

pub returns : goal.returns
unfolding sums
returns c =
    from_fn_list (λ i. add (slice_index c.args.s i) (slice_index c.args.t i)) (λ i y q called. search rules) c.from_fn.ensures.items
