use Rattle.std.proofs.Common.{refl}
use Rattle.octets.specs.Numbers.{bytes_of}
use Rattle.octets.proofs.Parts.{over_next}
use Rattle.messages.proofs.writer.write_fee.Goals as goal

pub returns : goal.returns
returns c =
    let out = c.args.out.now in
    record { bytes = over_next out (bytes_of 2 134) (bytes_of 4 c.args.rate) 2 refl c.put_kind.ensures c.put_number.ensures; long = refl }
