use Rattle.std.proofs.Common.{◌≤◌, ap, ◌∙◌, arith}
use Rattle.std.proofs.lemmas.Nat.{trailing_le}
use Rattle.secrets.specs.Store.{agrees_below, fits}
use Rattle.secrets.proofs.Places.{agreed_below}
use Rattle.secrets.proofs.store.Store.fits.Goals as goal

pub returns : goal.returns
unfolding fits
returns c =
    let secret = c.args.secret.now in
    let places = c.args.self.now.places in
    let bits = c.of-place.result.bits in
    let low : bits ≤ 48 = rw c.of-place.ensures (trailing_le 48 c.args.index) in
    c.agrees_with_all.ensures ∙ agreed_below secret bits places bits (omega arith) ∙ ap (λ b. agrees_below secret b places b) c.of-place.ensures
