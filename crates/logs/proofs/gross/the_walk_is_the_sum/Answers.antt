use Rattle.logs.proofs.Literal.{literal_gross}
use Rattle.logs.proofs.gross.the_walk_is_the_sum.Goals as goal

pub returns : goal.returns
returns g c = literal_gross g.M.Money.terms
