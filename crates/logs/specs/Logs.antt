-- Logs of updates, with amounts as whole numbers.
use Rattle.std.specs.Prelude.{ℕ, Bool, false, cond, ◌||◌, List, [], ◌∷◌, map, Some, None, fold, count_by, not, Option, ◌==◌}
use Rattle.std.specs.List.{list_any}
use Rattle.money.specs.Amounts.{Amount}
use Rattle.money.specs.declared.kind.Money.{Ghosts}
use Rattle.logs.specs.declared.update.Update.{Update}
use Rattle.logs.specs.declared.update.Update.TheVariants.{Add, Fulfil, Fail, Fee}

-- A log as the rules see it: amounts are whole numbers, asset by asset.
abbrev pub Log : Type 0
Log = List (Update Amount)

-- What an update in some money means, and a log of such.
abbrev pub mean : {M : Type 0} → Ghosts M → Update M → Update Amount
mean kind (Add id amount value expiry incoming) = Add id (kind.asset amount) value expiry incoming
mean kind (Fulfil id key) = Fulfil id key
mean kind (Fail id) = Fail id
mean kind (Fee rate) = Fee rate

abbrev pub means : {M : Type 0} → Ghosts M → List (Update M) → Log
means kind log = map (mean kind) log

-- An update fulfils, or fails, the add of the other log with an id.
abbrev pub fulfils : ℕ → Update Amount → Bool
fulfils id (Add i amount value expiry incoming) = false
fulfils id (Fulfil i key) = i == id
fulfils id (Fail i) = false
fulfils id (Fee rate) = false

abbrev pub fails : ℕ → Update Amount → Bool
fails id (Add i amount value expiry incoming) = false
fails id (Fulfil i key) = false
fails id (Fail i) = i == id
fails id (Fee rate) = false

-- A log has fulfilled, or failed, the add of the other log with an id; resolved is one or the other.
abbrev pub fulfilled : Log → ℕ → Bool
fulfilled log id = list_any (fulfils id) log

abbrev pub failed : Log → ℕ → Bool
failed log id = list_any (fails id) log

abbrev pub resolved : Log → ℕ → Bool
resolved log id = fulfilled log id || failed log id

-- An add is pending unless the other log resolves it.
abbrev pub pending : Log → Update Amount → Bool
pending other (Add id amount value expiry incoming) = not (resolved other id)
pending other (Fulfil id key) = false
pending other (Fail id) = false
pending other (Fee rate) = false

abbrev pub pending_count : Log → Log → ℕ
pending_count other log = count_by (pending other) log

-- The amount of the add with an id, of an update and of a log.
abbrev pub amount_if : ℕ → Update Amount → Option Amount
amount_if id (Add i amount value expiry incoming) = cond (i == id) (Some amount) None
amount_if id (Fulfil i key) = None
amount_if id (Fail i) = None
amount_if id (Fee rate) = None

abbrev pub either : Option Amount → Option Amount → Option Amount
either (Some amount) later = Some amount
either None later = later

abbrev pub amount_of : Log → ℕ → Option Amount
amount_of [] id = None
amount_of (update ∷ log) id = either (amount_if id update) (amount_of log id)

-- The rate is that of the last fee update, else the one before.
abbrev pub rate_by : ℕ → Update Amount → ℕ
rate_by rate (Add i amount value expiry incoming) = rate
rate_by rate (Fulfil i key) = rate
rate_by rate (Fail i) = rate
rate_by rate (Fee next) = next

abbrev pub rate_after : ℕ → Log → ℕ
rate_after rate log = fold rate_by rate log
