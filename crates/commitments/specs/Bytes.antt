-- The bytes of a commitment, and its signature.
use Rattle.std.specs.Prelude.{ℕ, List, [], ◌∷◌, ◌++◌, length}
use Rattle.std.specs.List.{flat_map}
use Rattle.octets.specs.Numbers.{bytes_of}
use Rattle.money.specs.Terms.{Terms}
use Rattle.sha256.specs.Fips.{hash}
use Rattle.commitments.specs.declared.side.Side.{Side}
use Rattle.commitments.specs.declared.side.Side.TheVariants.{Funder, Other}
use Rattle.commitments.specs.Commitments.{Payment, Commitment}

-- The funder is written as 0, the other side as 1.
abbrev pub side_byte : Side → ℕ
side_byte Funder = 0
side_byte Other = 1

-- A pending payment: offerer 1, id 2, amount, lock value 32, expiry 4.
abbrev pub payment_bytes : Terms → Payment → List ℕ
payment_bytes terms p = (side_byte p.offerer ∷ []) ++ (bytes_of 2 p.id ++ (terms.written p.amount ++ (p.value ++ bytes_of 4 p.expiry)))

-- Number 8, holder 1, rate 4, fee, the funder's output, the other's output, pending count 2.
abbrev pub heading_bytes : Terms → Commitment → List ℕ
heading_bytes terms c =
    bytes_of 8 c.number ++ ((side_byte c.holder ∷ []) ++ (bytes_of 4 c.rate ++ (terms.written c.fee ++ (terms.written c.funders ++ (terms.written c.others ++ bytes_of 2 (length c.pending))))))

-- Then each pending payment.
abbrev pub commitment_bytes : Terms → Commitment → List ℕ
commitment_bytes terms c = heading_bytes terms c ++ flat_map (payment_bytes terms) c.pending

-- A signature is the hash of the bytes.
abbrev pub signature_of : Terms → Commitment → List ℕ
signature_of terms c = hash (commitment_bytes terms c)
