use Rattle.std.proofs.Common.{set, Some, ap, rules}
use Rattle.secrets.specs.Store.{kept}
use Rattle.secrets.proofs.store.Store.insert.Goals as goal

pub returns : goal.returns
unfolding kept
returns c =
    record {
      answer = search rules;
      after = ap (λ n. set c.args.self.now.places n (Some (record { index = c.args.index; secret = c.args.secret.now }))) c.of.ensures;
    }
