-- What a side owns before the commitment fee: the walk over its log, and the sum that it stands for.
use Rattle.std.specs.Prelude.{◌≡◌, ℕ, suc, ◌+◌, ◌<◌, Bool, true, false, cond, [], ◌∷◌, Some, None, fold, Option}
use Rattle.std.specs.Option.{unwrap_or}
use Rattle.money.specs.Amounts.{Amount, contains, sum_of, difference_of}
use Rattle.money.specs.Terms.{Terms}
use Rattle.logs.specs.declared.update.Update.{Update}
use Rattle.logs.specs.declared.update.Update.TheVariants.{Add, Fulfil, Fail, Fee}
use Rattle.logs.specs.Logs.{Log, fulfilled, failed, amount_of}

module _ (terms : Terms) where
  -- An amount taken off, or put on; what the money refuses is left out.
  abbrev pub lessened : Amount → Amount → Amount
  lessened held amount = unwrap_or (difference_of terms.assets held amount) held

  abbrev pub raised : Amount → Amount → Amount
  raised held amount = unwrap_or (sum_of terms.assets terms.limit held amount) held

  abbrev pub credited : Amount → Option Amount → Amount
  credited held None = held
  credited held (Some amount) = raised held amount

  -- One update of the side's log: an add that the other side did not fail is taken off, an add of the other side that it fulfils is put on.
  abbrev pub moved : Log → Amount → Update Amount → Amount
  moved other held (Add id amount value expiry incoming) = cond (failed other id) held (lessened held amount)
  moved other held (Fulfil id key) = credited held (amount_of other id)
  moved other held (Fail id) = held
  moved other held (Fee rate) = held

  -- The walk over a side's log from its share.
  abbrev pub walked : Log → Amount → Log → Amount
  walked other share log = fold (moved other) share log

-- The amounts, asset by asset, of those adds of a log whose ids pass a test.
abbrev pub adds_total : (ℕ → Bool) → Log → Amount
adds_total test [] k = 0
adds_total test (Add id amount value expiry incoming ∷ log) k = cond (test id) (amount k) 0 + adds_total test log k
adds_total test (Fulfil id key ∷ log) k = adds_total test log k
adds_total test (Fail id ∷ log) k = adds_total test log k
adds_total test (Fee rate ∷ log) k = adds_total test log k

-- The id of an add is the count of adds before it in its log.
abbrev pub Numbered : ℕ → Log → Type 0
Numbered n [] = Unit {0}
Numbered n (Add id amount value expiry incoming ∷ log) = (id ≡ n) × Numbered (suc n) log
Numbered n (Fulfil id key ∷ log) = Numbered n log
Numbered n (Fail id ∷ log) = Numbered n log
Numbered n (Fee rate ∷ log) = Numbered n log

-- No add is fulfilled twice.
abbrev pub FulfilledOnce : Log → Type 0
FulfilledOnce [] = Unit {0}
FulfilledOnce (Add id amount value expiry incoming ∷ log) = FulfilledOnce log
FulfilledOnce (Fulfil id key ∷ log) = (fulfilled log id ≡ false) × FulfilledOnce log
FulfilledOnce (Fail id ∷ log) = FulfilledOnce log
FulfilledOnce (Fee rate ∷ log) = FulfilledOnce log

module _ (terms : Terms) where
  -- The money refuses nothing at an update.
  abbrev pub Goes : Log → Amount → Update Amount → Type 0
  Goes other held (Add id amount value expiry incoming) = failed other id ≡ false → contains terms.assets held amount ≡ true
  Goes other held (Fulfil id key) = (amount : Amount) → amount_of other id ≡ Some amount → contains terms.assets (λ _. terms.limit) (λ k. held k + amount k) ≡ true
  Goes other held (Fail id) = Unit {0}
  Goes other held (Fee rate) = Unit {0}

  -- The money refuses nothing on the way.
  abbrev pub NothingRefused : Log → Amount → Log → Type 0
  NothingRefused other held [] = Unit {0}
  NothingRefused other held (update ∷ log) = Goes other held update × NothingRefused other (moved terms other held update) log

  -- Where the money refuses nothing on the way, what the walk leaves, with the side's adds, makes the share with those
  -- of them that are failed and the other side's adds that it fulfilled.
  abbrev pub LiteralGross : Type 0
  LiteralGross = (other log : Log) (share : Amount) → Numbered 0 other → FulfilledOnce log → NothingRefused other share log → (k : ℕ) → k < terms.assets
      → walked terms other share log k + adds_total (λ _. true) log k ≡ share k + adds_total (failed other) log k + adds_total (fulfilled log) other k
