use Rattle.std.proofs.Common.{ap, ◌∙◌, arith}
use Rattle.std.specs.Int.{from_be_bytes, w32}
use Rattle.octets.proofs.Parts.{part_is}
use Rattle.octets.proofs.numbers.U32Number.read.Goals as goal

pub returns : goal.returns
returns c =
    let each = part_is c.args.bytes.now c.args.at 4 (omega arith) in
    let number = c.from_be_bytes.ensures ∙ ap (from_be_bytes w32) (c.array_at.ensures ∙ each) in
    rw each (omega (arith, number))
