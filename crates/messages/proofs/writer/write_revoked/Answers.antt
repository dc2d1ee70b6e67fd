use Rattle.std.proofs.Common.{◌≡◌, ◌++◌, length, refl, arith}
use Rattle.octets.specs.Numbers.{bytes_of}
use Rattle.octets.proofs.Parts.{over_next}
use Rattle.std.proofs.lemmas.List.{length-append}
use Rattle.messages.proofs.writer.write_revoked.Goals as goal

pub returns : goal.returns
returns c =
    let out = c.args.out.now in
    let secret = c.args.secret.now in
    let point = c.args.point.now in
    let whole : length secret ≡ 32 = omega arith in
    let next : length point ≡ 32 = omega arith in
    let start = over_next out (bytes_of 2 133) secret 2 refl c.put_kind.ensures c.put.ensures in
    record {
      bytes = over_next out (bytes_of 2 133 ++ secret) point 34 (omega arith) start c.put-2.ensures;
      long = simp length-append (omega arith);
    }
