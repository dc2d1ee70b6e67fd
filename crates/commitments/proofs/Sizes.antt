-- How long the bytes of a commitment are.
use Rattle.std.proofs.Common.{◌≡◌, ℕ, ◌+◌, ◌*◌, ◌<◌, List, ◌++◌, length, get_or, sym, ap, ◌∙◌, arith}
use Rattle.std.proofs.lemmas.List.{length-append}
use Rattle.std.specs.List.{flat_map}
use Rattle.octets.specs.Numbers.{bytes_of}
use Rattle.money.specs.Terms.{Terms}
use Rattle.money.specs.declared.kind.Money.{Ghosts}
use Rattle.logs.specs.Logs.{mean, means}
use Rattle.logs.specs.declared.update.Update.{Update}
use Rattle.commitments.specs.declared.heading.Heading.{Heading}
use Rattle.commitments.specs.declared.side.Side.{Side}
use Rattle.commitments.specs.Bytes.{payment_bytes}
use Rattle.commitments.specs.Commitments.{Payment, listed_one}
use Rattle.commitments.specs.Headings.{head_bytes}
use Rattle.commitments.proofs.Listing.{so_far, listed_more}

pub payment_long : (terms : Terms) (p : Payment) → length (payment_bytes terms p) ≡ 3 + length (terms.written p.amount) + length p.value + 4
payment_long terms p =
    let amount = terms.written p.amount in
    let id = bytes_of 2 p.id in
    let expiry = bytes_of 4 p.expiry in
    let a = length-append amount (p.value ++ expiry) in
    let b = length-append p.value expiry in
    omega arith

pub head_long : {M : Type 0} (kind : Ghosts M) (h : Heading M) (width : ℕ) → ((x : M) → length (kind.terms.written (kind.asset x)) ≡ width) → length (head_bytes kind h) ≡ 15 + 3 * width
head_long kind h width long =
    let fee = kind.terms.written (kind.asset h.fee) in
    let funders = kind.terms.written (kind.asset h.funders) in
    let others = kind.terms.written (kind.asset h.others) in
    let count = bytes_of 2 h.pending in
    let a = length-append fee (funders ++ (others ++ count)) in
    let b = length-append funders (others ++ count) in
    let c = length-append others count in
    let d = long h.fee in
    let e = long h.funders in
    let f = long h.others in
    omega arith

-- One update more.
pub size_more : {M : Type 0} (kind : Ghosts M) (side : Side) (other log : List (Update M)) (i size one : ℕ) (update : Update M) → i < length log → update ≡ get_or log i update
    → size ≡ length (so_far kind side (means kind other) log i)
    → one ≡ length (flat_map (payment_bytes kind.terms) (listed_one side (means kind other) (mean kind update)))
    → size + one ≡ length (so_far kind side (means kind other) log (i + 1))
size_more kind side other log i size one update inside is before next =
    (λ j. before j + next j)
    ∙ sym (length-append (so_far kind side (means kind other) log i) (flat_map (payment_bytes kind.terms) (listed_one side (means kind other) (mean kind update))))
    ∙ ap length (sym (listed_more kind side (means kind other) log i update inside is))
