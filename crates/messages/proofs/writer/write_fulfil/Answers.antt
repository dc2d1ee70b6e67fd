use Rattle.std.proofs.Common.{◌≡◌, ◌++◌, length, refl, arith}
use Rattle.octets.specs.Numbers.{bytes_of}
use Rattle.octets.proofs.Parts.{over_next}
use Rattle.messages.proofs.writer.write_fulfil.Goals as goal

pub returns : goal.returns
returns c =
    let out = c.args.out.now in
    let id = bytes_of 2 c.args.id in
    let key = c.args.key.now in
    let whole : length key ≡ 32 = omega arith in
    let start = over_next out (bytes_of 2 130) id 2 refl c.put_kind.ensures c.put_number.ensures in
    record { bytes = over_next out (bytes_of 2 130 ++ id) key 4 refl start c.put.ensures; long = omega arith }
