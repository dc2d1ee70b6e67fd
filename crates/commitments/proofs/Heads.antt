-- A heading and the commitment that it heads have the same bytes.
use Rattle.std.proofs.Common.{◌≡◌, ℕ, List, [], ◌∷◌, ◌++◌, sym, ap, ◌∙◌}
use Rattle.octets.specs.Numbers.{bytes_of}
use Rattle.money.specs.declared.kind.Money.{Ghosts}
use Rattle.logs.specs.Logs.{means}
use Rattle.logs.specs.declared.update.Update.{Update}
use Rattle.commitments.specs.declared.heading.Heading.{Heading}
use Rattle.commitments.specs.declared.heading.Opening.{Opening}
use Rattle.commitments.specs.declared.side.Side.{Side}
use Rattle.commitments.specs.declared.side.Side.TheVariants.{Funder, Other}
use Rattle.commitments.specs.Bytes.{side_byte, payment_bytes, heading_bytes, commitment_bytes}
use Rattle.commitments.specs.Commitments.{Commitment, listed}
use Rattle.commitments.specs.Entries.{commitment_in}
use Rattle.commitments.specs.Headings.{Heads, head_bytes, log_bytes, headed_bytes}
use Rattle.commitments.proofs.Listing.{joined_append}

pub headed : {M : Type 0} (kind : Ghosts M) (h : Heading M) (c : Commitment) → Heads kind h c → head_bytes kind h ≡ heading_bytes kind.terms c
headed kind h c same = λ i.
    let written = kind.terms.written in
    bytes_of 8 (same.number i) ++ ((side_byte (same.holder i) ∷ []) ++ (bytes_of 4 (same.rate i) ++ (written (same.fee i) ++ (written (same.funders i) ++ (written (same.others i) ++ bytes_of 2 (same.pending i))))))

-- With the pending payments of both logs they are all bytes of the commitment.
pub whole_bytes : {M : Type 0} (kind : Ghosts M) (number : ℕ) (holder : Side) (opening : Opening M) (log other : List (Update M)) (h : Heading M)
    → Heads kind h (commitment_in kind number holder opening log other) → headed_bytes kind h log other ≡ commitment_bytes kind.terms (commitment_in kind number holder opening log other)
whole_bytes kind number holder opening log other h same =
    let whole = commitment_in kind number holder opening log other in
    ap (λ b. b ++ (log_bytes kind Funder log other ++ log_bytes kind Other other log)) (headed kind h whole same)
    ∙ ap (λ b. heading_bytes kind.terms whole ++ b) (sym (joined_append (payment_bytes kind.terms) (listed Funder (means kind other) (means kind log)) (listed Other (means kind log) (means kind other))))
