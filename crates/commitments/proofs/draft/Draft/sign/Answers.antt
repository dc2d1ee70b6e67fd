use Rattle.std.proofs.Common.{[]}
use Rattle.commitments.proofs.draft.Draft.sign.Goals as goal

pub returns : goal.returns
returns g c = c.digest.ensures _ (c.put.ensures c.new-hasher.result [] c.new-hasher.ensures)
