use Rattle.std.proofs.Common.{◌≡◌, arith}
use Rattle.sha256.specs.Fips.{compressed}
use Rattle.sha256.proofs.Turns.{not_turned}
use Rattle.sha256.proofs.blocks.compress.Goals as goal

pub loop-i-init : goal.loop-i-init
loop-i-init c = not_turned c.args.value c.args.block.now _

pub returns : goal.returns
unfolding compressed
returns c =
    let e : c.loop-i.i ≡ 8 = omega arith in
    let variables = rw e at c.loop-i.invariant.variables in
    rw (← variables) c.added.ensures
