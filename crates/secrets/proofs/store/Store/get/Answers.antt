use Rattle.std.proofs.Common.{◌≡◌, ◌<◌, ◌≤◌, length, sym, arith}
use Rattle.secrets.proofs.Places.{asked_none, asked_more, asked_found, asked_all}
use Rattle.secrets.proofs.store.Store.get.Goals as goal

pub loop-bits-init : goal.loop-bits-init
loop-bits-init c = (asked_none c.args.self.now.places c.args.index, λ some. absurd (omega arith))

pub loop-bits-preserved : goal.loop-bits-preserved
loop-bits-preserved c =
    let places = c.args.self.now.places in
    let inside : c.loop-bits.bits < length places = omega arith in
    let many : length places ≡ 49 = omega arith in
    (asked_more places c.args.index c.loop-bits.bits inside (sym c.in_default.ensures) c.loop-bits.invariant.0, λ some. many)

pub returns-in-Some : goal.returns-in-Some
returns-in-Some c =
    let places = c.args.self.now.places in
    let inside : c.loop-bits.bits < length places = omega arith in
    asked_found places c.args.index c.loop-bits.bits c.in-Some.secret inside (sym c.in-Some.ensures) c.loop-bits.invariant.0

pub returns : goal.returns
returns c =
    let places = c.args.self.now.places in
    let over : length places ≤ c.loop-bits.bits = (let many = c.loop-bits.invariant.1 (omega arith) in omega arith) in
    asked_all places c.args.index c.loop-bits.bits over c.loop-bits.invariant.0
