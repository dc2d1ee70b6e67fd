-- What a commitment is: its fee, both outputs and the pending payments.
use Rattle.std.specs.Prelude.{ℕ, ◌+◌, ◌-◌, ◌*◌, ◌/◌, cond, List, [], ◌∷◌, ◌++◌, length}
use Rattle.std.specs.List.{flat_map}
use Rattle.money.specs.Amounts.{Amount, units_from}
use Rattle.logs.specs.declared.update.Update.{Update}
use Rattle.logs.specs.declared.update.Update.TheVariants.{Add, Fulfil, Fail, Fee}
use Rattle.logs.specs.Logs.{Log, resolved}
use Rattle.commitments.specs.declared.side.Side.{Side}
use Rattle.commitments.specs.declared.side.Side.TheVariants.{Funder, Other}

-- A pending payment, with the side that offered it.
pub record Payment : Type 0 where
  pub offerer : Side
  pub id : ℕ
  pub amount : Amount
  pub value : List ℕ
  pub expiry : ℕ

pub record Commitment : Type 0 where
  pub number : ℕ
  pub holder : Side
  pub rate : ℕ
  pub fee : Amount
  pub funders : Amount
  pub others : Amount
  pub pending : List Payment

-- An add is listed unless the other log resolves it.
abbrev pub listed_one : Side → Log → Update Amount → List Payment
listed_one side other (Add id amount value expiry incoming) = cond (resolved other id) [] (record { offerer = side; id = id; amount = amount; value = value; expiry = expiry } ∷ [])
listed_one side other (Fulfil id key) = []
listed_one side other (Fail id) = []
listed_one side other (Fee rate) = []

-- The pending payments of a side, in the order of its log.
abbrev pub listed : Side → Log → Log → List Payment
listed side other log = flat_map (listed_one side other) log

-- The fee: rate · (724 + 172 · pending count) div 1000 units from the funder's gross.
abbrev pub fee_units : ℕ → ℕ → ℕ
fee_units rate count = rate * (724 + 172 * count) / 1000

abbrev pub fee_of : ℕ → ℕ → Amount → Amount
fee_of rate count gross = units_from (fee_units rate count) gross

-- The commitment of two logs: the funder's payments come first, and the outputs are the grosses, the funder's less the fee.
abbrev pub commitment_of : (number : ℕ) (holder : Side) (rate : ℕ) (gross other_gross : Amount) (log other_log : Log) → Commitment
commitment_of number holder rate gross other_gross log other_log =
    let payments = listed Funder other_log log ++ listed Other log other_log in
    record {
      number = number;
      holder = holder;
      rate = rate;
      fee = fee_of rate (length payments) gross;
      funders = λ k. gross k - fee_of rate (length payments) gross k;
      others = other_gross;
      pending = payments;
    }
