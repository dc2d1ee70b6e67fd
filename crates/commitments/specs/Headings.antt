-- The heading that the code makes, and the commitment that it heads.
use Rattle.std.specs.Prelude.{◌≡◌, ℕ, ◌≤◌, List, [], ◌∷◌, ◌++◌, length}
use Rattle.std.specs.List.{flat_map}
use Rattle.octets.specs.Numbers.{bytes_of}
use Rattle.money.specs.declared.kind.Money.{Ghosts}
use Rattle.logs.specs.Logs.{means}
use Rattle.logs.specs.declared.update.Update.{Update}
use Rattle.commitments.specs.declared.heading.Heading.{Heading}
use Rattle.commitments.specs.declared.side.Side.{Side}
use Rattle.commitments.specs.declared.side.Side.TheVariants.{Funder, Other}
use Rattle.commitments.specs.Bytes.{side_byte, payment_bytes}
use Rattle.commitments.specs.Commitments.{Commitment, listed}

-- A heading agrees with a commitment field by field.
pub record Heads {M : Type 0} (kind : Ghosts M) (h : Heading M) (c : Commitment) : Type 0 where
  pub number : h.number ≡ c.number
  pub holder : h.holder ≡ c.holder
  pub rate : h.rate ≡ c.rate
  pub fee : kind.asset h.fee ≡ c.fee
  pub funders : kind.asset h.funders ≡ c.funders
  pub others : kind.asset h.others ≡ c.others
  pub pending : h.pending ≡ length c.pending
  pub few : h.pending ≤ 8192

-- The bytes of a heading.
abbrev pub head_bytes : {M : Type 0} → Ghosts M → Heading M → List ℕ
head_bytes kind h =
    bytes_of 8 h.number ++ ((side_byte h.holder ∷ []) ++ (bytes_of 4 h.rate ++ (kind.terms.written (kind.asset h.fee) ++ (kind.terms.written (kind.asset h.funders) ++ (kind.terms.written (kind.asset h.others) ++ bytes_of 2 h.pending)))))

-- The bytes of a side's pending payments.
abbrev pub log_bytes : {M : Type 0} → Ghosts M → Side → (log other : List (Update M)) → List ℕ
log_bytes kind side log other = flat_map (payment_bytes kind.terms) (listed side (means kind other) (means kind log))

-- The bytes of a heading, then the funder's pending payments, then the other side's.
abbrev pub headed_bytes : {M : Type 0} → Ghosts M → Heading M → (log other : List (Update M)) → List ℕ
headed_bytes kind h log other = head_bytes kind h ++ (log_bytes kind Funder log other ++ log_bytes kind Other other log)
