use Rattle.std.proofs.Common.{take, Some, ap, ◌∙◌, arith}
use Rattle.std.proofs.lemmas.List.{take_more_set, take_all, length-set}
use Rattle.notation.specs.Hex.{bytes_from}
use Rattle.notation.proofs.Pairs.{then_read, next_read, read_more, read_stop, read_all}
use Rattle.notation.proofs.hex.decode_into.Goals as goal

pub loop-byte-preserved : goal.loop-byte-preserved
loop-byte-preserved c =
    let out = c.loop-byte.byte-items in
    let i = c.loop-byte.byte-index in
    let b = c.in_ok-byte.field-0 in
    let rest = c.in_ok-high.rest.now in
    let cut = c.in_ok-high.ensures.cases in
    let step = next_read c.loop-byte.digits.now c.in_ok-high.field-0-0.now rest cut.0 cut.1 (omega arith) in
    record {
      left = omega (arith, length-set out i b);
      read = ap (λ t. then_read t (bytes_from rest)) (take_more_set out i b (omega arith)) ∙ read_more (take i out) c.loop-byte.digits.now rest _ _ step c.loop-byte.invariant.read b c.in_ok-byte.ensures;
    }

pub returns-in_err-byte : goal.returns-in_err-byte
returns-in_err-byte c =
    let cut = c.in_ok-high.ensures.cases in
    let rest = c.in_ok-high.rest.now in
    let step = next_read c.loop-byte.digits.now c.in_ok-high.field-0-0.now rest cut.0 cut.1 (omega arith) in
    rw c.from_residual-in_err-byte.ensures (read_stop (take c.loop-byte.byte-index c.loop-byte.byte-items) c.loop-byte.digits.now rest _ _ step c.loop-byte.invariant.read c.in_err-byte.ensures)

pub returns : goal.returns
returns c =
    let out = c.loop-byte.byte-items in
    let i = c.loop-byte.byte-index in
    read_all (take i out) c.loop-byte.digits.now _ (omega arith) c.loop-byte.invariant.read ∙ ap Some (take_all i out (omega arith))
