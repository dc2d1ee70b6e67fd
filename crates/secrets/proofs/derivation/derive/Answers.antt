use Rattle.std.proofs.Common.{◌-◌, sym, ap, ◌∙◌}
use Rattle.secrets.specs.Derivation.{derived}
use Rattle.secrets.proofs.Derivations.{derived_next, derived_done}
use Rattle.secrets.proofs.derivation.derive.Goals as goal

pub loop-bit-preserved : goal.loop-bit-preserved
loop-bit-preserved c =
    let index = c.args.index in
    let bit = c.loop-bit.bit in
    ap (λ v. derived v index (bit - 1)) c.turn-next.ensures ∙ derived_next c.loop-bit.derived index bit c.loop-bit-test.true ∙ c.loop-bit.invariant

pub returns : goal.returns
returns c = sym (derived_done c.loop-bit.derived c.args.index c.loop-bit.bit c.loop-bit-test.false) ∙ c.loop-bit.invariant
