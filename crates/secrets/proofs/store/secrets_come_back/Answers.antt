use Rattle.secrets.proofs.Back.{comes_back}
use Rattle.secrets.proofs.store.secrets_come_back.Goals as goal

pub returns : goal.returns
returns c = comes_back
