use Rattle.std.proofs.Common.{◌∙◌, arith}
use Rattle.secrets.proofs.Zeros.{narrower}
use Rattle.secrets.proofs.store.Place.of.Goals as goal

pub returns : goal.returns
returns c = c.min.ensures ∙ narrower 48 64 c.args.index (omega arith)
