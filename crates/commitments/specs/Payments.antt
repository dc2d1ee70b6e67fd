-- A pending payment by its parts.
use Rattle.std.specs.Prelude.{ℕ, List}
use Rattle.money.specs.Amounts.{Amount}
use Rattle.commitments.specs.declared.side.Side.{Side}
use Rattle.commitments.specs.Commitments.{Payment}

abbrev pub payment : Side → ℕ → Amount → List ℕ → ℕ → Payment
payment offerer id amount value expiry = record { offerer = offerer; id = id; amount = amount; value = value; expiry = expiry }
