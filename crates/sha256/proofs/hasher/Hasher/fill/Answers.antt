use Rattle.std.proofs.Common.{◌+◌, ◌-◌, ◌%◌, take, arith, rules}
use Rattle.std.proofs.lemmas.List.{places, length-take-le}
use Rattle.sha256.proofs.Streams.{held_part, held_whole}
use Rattle.sha256.proofs.hasher.Hasher.fill.Goals as goal

pub returns-then-filled-count-eq64-clause-took : goal.returns-then-filled-count-eq64-clause-took
returns-then-filled-count-eq64-clause-took c m held =
    let h = c.args.self.now in
    let count = c.min-count.result in
    let long = length-take-le count c.args.bytes.now (omega arith) in
    let k = h.total % 64 + count - h.total % 64 in
    rw (c.compress-self.ensures, c.copy_from_slice.ensures.after) (held_whole h.state h.block m h.total held (take count c.args.bytes.now) count k long (omega arith) (omega arith) (search (rules, places)))

pub returns-else-filled-count-eq64-clause-took : goal.returns-else-filled-count-eq64-clause-took
returns-else-filled-count-eq64-clause-took c m held =
    let h = c.args.self.now in
    let count = c.min-count.result in
    let long = length-take-le count c.args.bytes.now (omega arith) in
    let k = h.total % 64 + count - h.total % 64 in
    rw c.copy_from_slice.ensures.after (held_part h.state h.block m h.total held (take count c.args.bytes.now) count k long (omega arith) (omega arith))
