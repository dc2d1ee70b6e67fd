use Rattle.std.proofs.Common.{◌≡◌, length, refl, arith}
use Rattle.octets.specs.Numbers.{bytes_of}
use Rattle.octets.proofs.Parts.{over_next}
use Rattle.messages.proofs.writer.write_signed.Goals as goal

pub returns : goal.returns
returns c =
    let out = c.args.out.now in
    let signature = c.args.signature.now in
    let whole : length signature ≡ 32 = omega arith in
    record { bytes = over_next out (bytes_of 2 132) signature 2 refl c.put_kind.ensures c.put.ensures; long = omega arith }
