-- The commitment of two logs, from the opening shares and rate.
use Rattle.std.specs.Prelude.{ℕ, List}
use Rattle.money.specs.Amounts.{Amount}
use Rattle.money.specs.Terms.{Terms}
use Rattle.money.specs.declared.kind.Money.{Ghosts}
use Rattle.logs.specs.Gross.{walked}
use Rattle.logs.specs.Logs.{Log, means, rate_after}
use Rattle.logs.specs.declared.update.Update.{Update}
use Rattle.commitments.specs.declared.heading.Opening.{Opening}
use Rattle.commitments.specs.declared.side.Side.{Side}
use Rattle.commitments.specs.Commitments.{Commitment, commitment_of}

-- Each gross is the walk over the side's log from its share; the rate is that of the funder's last fee update.
abbrev pub entry_commitment : Terms → (number : ℕ) (holder : Side) (rate : ℕ) (share other_share : Amount) (log other_log : Log) → Commitment
entry_commitment terms number holder rate share other_share log other_log =
    commitment_of number holder (rate_after rate log) (walked terms other_log share log) (walked terms log other_share other_log) log other_log

-- The same from values of a kind of money.
abbrev pub commitment_in : {M : Type 0} → Ghosts M → (number : ℕ) (holder : Side) → Opening M → (log other_log : List (Update M)) → Commitment
commitment_in kind number holder opening log other_log =
    entry_commitment kind.terms number holder opening.rate (kind.asset opening.funders) (kind.asset opening.others) (means kind log) (means kind other_log)
