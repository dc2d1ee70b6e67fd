use Rattle.std.proofs.Common.{◌≡◌, ◌<◌, sym, ◌∙◌, mod-lt, mod-eq_of_lt, arith}
use Rattle.std.proofs.num.Powers.{even_step, odd_step, first_step, last_step}
use Rattle.locks.proofs.power.power.Goals as goal
use Rattle.locks.proofs.power.power.Goals.{then-left-eq1, else-left-eq1}

pub loop-left-init : goal.loop-left-init
loop-left-init c = (first_step c.args.base c.args.exponent c.args.modulus, c.requires.0, c.requires.2)

pub loop-left-preserved : goal.loop-left-preserved
loop-left-preserved c =
    let l = c.loop-left in
    let m = c.args.modulus in
    let some : 0 < m = omega arith in
    elim c.if-left-eq1.branch [
      | then-left-eq1 w ↦ rw w.result-is (odd_step l.result l.square l.left m w.if-left-eq1.true ∙ l.invariant.0, mod-lt _ some, mod-lt _ some)
      | else-left-eq1 w ↦ rw w.result-is (even_step l.result l.square l.left m w.if-left-eq1.false ∙ l.invariant.0, l.invariant.1, mod-lt _ some)
    ]

pub returns : goal.returns
returns c =
    let l = c.loop-left in
    let none : l.left ≡ 0 = omega arith in
    sym (mod-eq_of_lt l.invariant.1) ∙ sym (last_step l.result l.square l.left c.args.modulus none) ∙ l.invariant.0
