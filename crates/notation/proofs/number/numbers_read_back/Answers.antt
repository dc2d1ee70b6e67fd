use Rattle.std.proofs.Common.{◌^◌, ◌<◌, decimal, arith}
use Rattle.std.proofs.lemmas.Fmt.{decimal_is_IsNumeral}
use Rattle.std.specs.Str.Parse.{digits_value}
use Rattle.notation.proofs.number.numbers_read_back.Goals as goal

pub returns : goal.returns
returns c = λ n small. let reads = decimal_is_IsNumeral n small in let fits : digits_value 10 (decimal n) < 2 ^ 64 = omega (arith, reads.1) in ((reads.0, fits), reads.1)
