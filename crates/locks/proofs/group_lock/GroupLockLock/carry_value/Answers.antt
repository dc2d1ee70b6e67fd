use Rattle.std.proofs.Common.{◌≡◌, ◌*◌, ◌%◌, ◌^◌, ap, ◌∙◌}
use Rattle.locks.specs.Group.{number_in, as_value}
use Rattle.locks.specs.Turns.{mod_factor}
use Rattle.locks.proofs.group_lock.GroupLockLock.carry_value.Goals as goal

pub returns : goal.returns
returns c =
    let p = c.args.self.now.modulus in
    let q = c.args.self.now.order in
    let g = c.args.self.now.base in
    let v = number_in c.args.value.now in
    let t = number_in c.args.tweak.now in
    let factor : c.power-factor.result ≡ g ^ (t % q) % p = c.power-factor.ensures ∙ ap (λ n. g ^ (n % q) % p) c.number_in.ensures in
    let product : c.number_in-2.result % p * c.power-factor.result % p ≡ v % p * g ^ (t % q) % p =
    (λ i. c.number_in-2.ensures i % p * factor i % p) ∙ mod_factor (v % p) (g ^ (t % q)) p in
    c.as_value.ensures ∙ ap as_value product
