use Rattle.secrets.proofs.Back.{honest_fits}
use Rattle.secrets.proofs.store.honest_secrets_fit.Goals as goal

pub returns : goal.returns
returns c = honest_fits
