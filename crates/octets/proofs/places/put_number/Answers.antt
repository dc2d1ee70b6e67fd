use Rattle.std.proofs.Common.{length, ap, ◌∙◌, arith}
use Rattle.octets.proofs.Laws.{bytes_length}
use Rattle.octets.proofs.places.put_number.Goals as goal

pub put-requires : goal.put-requires
put-requires g c =
    let long = ap length (c.as_slice.ensures ∙ c.to_bytes.ensures) ∙ bytes_length _ _ in
    omega (arith, long)
