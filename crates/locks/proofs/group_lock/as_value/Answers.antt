use Rattle.octets.specs.Places.{over}
use Rattle.locks.proofs.group_lock.as_value.Goals as goal

pub returns : goal.returns
unfolding over
returns c = c.put_number.ensures
