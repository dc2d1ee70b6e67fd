use Rattle.std.proofs.Common.{sym, arith}
use Rattle.notation.proofs.Pairs.{odd_unread}
use Rattle.notation.proofs.hex.decode.Goals as goal

pub returns-then-digits-eq1 : goal.returns-then-digits-eq1
returns-then-digits-eq1 c = sym (odd_unread c.args.digits.now (omega arith))
