-- Bytes as hex digits, two a byte.
use Rattle.std.specs.Prelude.{◌≡◌, ℕ, ◌+◌, ◌-◌, ◌*◌, ◌/◌, ◌%◌, Bool, cond, ◌&&◌, List, [], ◌∷◌, length, Some, None, Option, ◌==◌, nat_le, nat_lt}
use Rattle.std.specs.List.{flat_map}
use Rattle.octets.specs.Numbers.{Bytes}

-- From one character to another.
abbrev pub between : ℕ → ℕ → ℕ → Bool
between low high c = nat_le low c && nat_le c high

-- The number of a hex digit: 0 to 9, a to f, or A to F.
abbrev pub digit_number : ℕ → Option ℕ
digit_number c =
    cond (between 48 57 c) (Some (c - 48))
    (cond (between 97 102 c) (Some (c - 87))
    (cond (between 65 70 c) (Some (c - 55))
    None))

-- The hex digit of a number below 16, in lower case.
abbrev pub digit_of : ℕ → ℕ
digit_of n = cond (nat_lt n 10) (48 + n) (87 + n)

-- The two digits of each byte, the higher first.
abbrev pub hex_of : List ℕ → List ℕ
hex_of bs = flat_map (λ b. digit_of (b / 16) ∷ digit_of (b % 16) ∷ []) bs

-- The byte of two digits, the higher first, where both could be read.
abbrev pub byte_of : Option ℕ → Option ℕ → Option ℕ
byte_of (Some high) (Some low) = Some (16 * high + low)
byte_of (Some high) None = None
byte_of None low = None

-- A byte before the others, where all could be read.
abbrev pub before : Option ℕ → Option (List ℕ) → Option (List ℕ)
before (Some b) (Some bs) = Some (b ∷ bs)
before (Some b) None = None
before None bs = None

-- The bytes that digits stand for; an odd digit or a character that is no digit cannot be read.
unfoldable pub bytes_from : List ℕ → Option (List ℕ)
bytes_from [] = Some []
bytes_from (a ∷ []) = None
bytes_from (a ∷ (b ∷ rest)) = before (byte_of (digit_number a) (digit_number b)) (bytes_from rest)

-- A value has 32 bytes, 64 digits.
abbrev pub value_from : List ℕ → Option (List ℕ)
value_from digits = cond (length digits == 64) (bytes_from digits) None

-- Hex reads back what it writes.
abbrev pub HexReadsBack : Type 0
HexReadsBack = (bs : List ℕ) → Bytes bs → bytes_from (hex_of bs) ≡ Some bs
