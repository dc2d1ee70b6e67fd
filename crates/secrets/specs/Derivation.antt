-- Secrets derived from a value, and the secrets and points of commitments.
use Rattle.std.specs.Prelude.{ℕ, zero, suc, ◌-◌, ◌/◌, ◌%◌, ◌^◌, Bool, cond, List, ◌==◌, bit_xor, slice_index, slice_set}
use Rattle.sha256.specs.Fips.{hash}

-- Bit b of a number is set.
abbrev pub bit_set : ℕ → ℕ → Bool
bit_set n b = n / 2 ^ b % 2 == 1

-- A value with one bit flipped: bit b mod 8 of byte b div 8.
abbrev pub flipped : List ℕ → ℕ → List ℕ
flipped value b = slice_set value (b / 8) (bit_xor (slice_index value (b / 8)) (2 ^ (b % 8)))

-- One bit of the index: where it is set, flip it in the value and hash.
abbrev pub turned : List ℕ → ℕ → ℕ → List ℕ
turned value index b = cond (bit_set index b) (hash (flipped value b)) value

-- Deriving an index from a value over so many bits, the highest first.
unfoldable pub derived : List ℕ → ℕ → ℕ → List ℕ
derived value index zero = value
derived value index (suc b) = derived (turned value index b) index b

-- Commitment number n uses the index 2^48 - 1 - n.
abbrev pub index_of : ℕ → ℕ
index_of number = 2 ^ 48 - 1 - number

-- The secret of a commitment number is the seed derived over 48 bits, its point the hash of the secret.
abbrev pub secret_of : List ℕ → ℕ → List ℕ
secret_of seed number = derived seed (index_of number) 48

abbrev pub point_of : List ℕ → ℕ → List ℕ
point_of seed number = hash (secret_of seed number)
