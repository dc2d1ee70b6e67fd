use Rattle.std.proofs.Common.{◌<◌, ◌≤◌, length, drop, sym, ap, ◌∙◌, arith}
use Rattle.std.proofs.lemmas.List.{take_rest}
use Rattle.std.proofs.lemmas.Bool.{ltb-true, ltb-false}
use Rattle.messages.specs.Reading.{read_fields}
use Rattle.messages.proofs.Types.{unknown, read_short, read_typed}
use Rattle.messages.proofs.reader.read_message.Goals as goal

pub returns-in_default : goal.returns-in_default
returns-in_default g c =
    let short : length c.args.bytes.now < 2 = omega (arith, ltb-true) in
    read_short g.M.Money.terms.width c.args.bytes.now short

pub returns-in-Ok : goal.returns-in-Ok
returns-in-Ok g c =
    let long : 2 ≤ length c.args.bytes.now = omega (arith, ltb-false) in
    let width = g.M.Money.terms.width in
    let bs = c.args.bytes.now in
    let number = sym c.in-Ok.ensures ∙ c.from_be_bytes.ensures in
    c.read_kind.ensures ∙ (λ i. read_fields width (number i) (take_rest bs 2 i)) ∙ read_typed width bs long

pub returns-in-Err : goal.returns-in-Err
returns-in-Err g c =
    let long : 2 ≤ length c.args.bytes.now = omega (arith, ltb-false) in
    let width = g.M.Money.terms.width in
    let bs = c.args.bytes.now in
    unknown width c.from_be_bytes.result (drop 2 bs) c.in-Err.ensures ∙ ap (λ n. read_fields width n (drop 2 bs)) c.from_be_bytes.ensures ∙ read_typed width bs long
