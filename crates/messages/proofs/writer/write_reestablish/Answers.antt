use Rattle.std.proofs.Common.{◌++◌, refl}
use Rattle.octets.specs.Numbers.{bytes_of}
use Rattle.octets.proofs.Parts.{over_next}
use Rattle.messages.proofs.writer.write_reestablish.Goals as goal

pub returns : goal.returns
returns c =
    let out = c.args.out.now in
    let commitment = bytes_of 8 c.args.commitment in
    let revocation = bytes_of 8 c.args.revocation in
    let start = over_next out (bytes_of 2 136) commitment 2 refl c.put_kind.ensures c.put_number.ensures in
    record { bytes = over_next out (bytes_of 2 136 ++ commitment) revocation 10 refl start c.put_number-2.ensures; long = refl }
