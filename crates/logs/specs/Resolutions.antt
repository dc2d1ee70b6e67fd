-- The ways in which an add is resolved.
use Rattle.std.specs.Prelude.{ℕ, Bool}
use Rattle.money.specs.Amounts.{Amount}
use Rattle.logs.specs.declared.update.Resolution.{Resolution}
use Rattle.logs.specs.declared.update.Resolution.TheVariants.{Fulfilled, Failed}
use Rattle.logs.specs.declared.update.Update.{Update}
use Rattle.logs.specs.Logs.{fulfils, fails}

-- An update resolves the add with an id in this way.
abbrev pub resolves : Resolution → ℕ → Update Amount → Bool
resolves Fulfilled id update = fulfils id update
resolves Failed id update = fails id update
