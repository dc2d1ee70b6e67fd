use Rattle.notation.proofs.Pairs.{hex_back}
use Rattle.notation.proofs.hex.hex_reads_back.Goals as goal

pub returns : goal.returns
returns c = hex_back
