use Rattle.std.proofs.Common.{◌+◌, ◌*◌, ◌≤◌, length, sym, ap, ◌∙◌, arith}
use Rattle.octets.specs.Numbers.{bytes_of}
use Rattle.octets.specs.Places.{over}
use Rattle.octets.proofs.Parts.{over_none, over_over}
use Rattle.money.specs.Terms.{eight_each}
use Rattle.money.specs.Eights.{eight_long, eight_more}
use Rattle.money.specs.Amounts.{row}
use Rattle.money.proofs.counts.Counts.put.Goals as goal

pub loop-i-init : goal.loop-i-init
loop-i-init g c = sym (over_none c.args.out.now c.args.at)

pub loop-i-preserved : goal.loop-i-preserved
loop-i-preserved g c =
    let out = c.args.out.now in
    let at = c.args.at in
    let i = c.loop-i.i in
    let f = row c.args.self.now.counts in
    let room : at ≤ length out = omega arith in
    c.put_number.ensures
    ∙ ap (λ t. over t (at + 8 * i) (bytes_of 8 (f i))) c.loop-i.invariant
    ∙ over_over out (eight_each i f) (bytes_of 8 (f i)) at (at + 8 * i) room (ap (λ n. at + n) (eight_long i f))
    ∙ ap (over out at) (sym (eight_more i f))
