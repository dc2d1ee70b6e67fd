use Rattle.std.proofs.Common.{◌≡◌, ◌+◌, ◌++◌, length, refl, ap, ◌∙◌, arith}
use Rattle.std.proofs.lemmas.List.{append_assoc, length-append}
use Rattle.octets.specs.Places.{over}
use Rattle.octets.specs.Numbers.{bytes_of}
use Rattle.octets.proofs.Parts.{over_next}
use Rattle.messages.proofs.writer.write_add.Goals as goal

pub returns : goal.returns
returns g c =
    let money = g.M.Money in
    let width = money.terms.width in
    let out = c.args.out.now in
    let id = bytes_of 2 c.args.id in
    let amount = money.terms.written (money.asset c.args.amount.now) in
    let value = c.args.value.now in
    let expiry = bytes_of 4 c.args.expiry in
    let wide : c.byte_width-width.result ≡ width = c.byte_width-width.ensures in
    let amount_long : length amount ≡ width = g.met.M.Money.long c.args.amount.now in
    let value_long : length value ≡ 32 = omega arith in
    let start = over_next out (bytes_of 2 128) id 2 refl c.put_kind.ensures c.put_number.ensures in
    let third = over_next out (bytes_of 2 128 ++ id) amount 4 refl start c.write.ensures in
    let fourth = over_next out ((bytes_of 2 128 ++ id) ++ amount) value (4 + c.byte_width-width.result) (omega arith) third c.put.ensures in
    let whole = over_next out (((bytes_of 2 128 ++ id) ++ amount) ++ value) expiry (36 + c.byte_width-width.result) (simp length-append (omega arith)) fourth c.put_number-2.ensures in
    record { bytes = whole ∙ ap (over out 0) (simp append_assoc); long = simp length-append (omega arith) }
