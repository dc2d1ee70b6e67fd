use Rattle.money.specs.Eights.{eight_again}
use Rattle.money.proofs.kind.reading_keeps_the_bytes.Goals as goal

pub returns : goal.returns
returns c = λ n bs each long. eight_again bs each n long
