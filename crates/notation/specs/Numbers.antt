-- Decimal numbers of 64 bits.
use Rattle.std.specs.Prelude.{◌≡◌, ℕ, ◌^◌, ◌<◌, List, Some, None, decimal, Option}
use Rattle.std.specs.Str.Parse.{IsNumeral, digits_value}

-- A number is one or more digits, and nothing else, that write less than 2^64.
abbrev pub IsNumber : List ℕ → Type 0
IsNumber word = IsNumeral 10 word × (digits_value 10 word < 2 ^ 64)

-- The answer is the number that the digits write, or nothing where they write none.
abbrev pub ReadsNumber : List ℕ → Option ℕ → Type 0
ReadsNumber word (Some n) = IsNumber word × (n ≡ digits_value 10 word)
ReadsNumber word None = IsNumber word → ⊥

-- Numbers read back what they write.
abbrev pub NumbersReadBack : Type 0
NumbersReadBack = (n : ℕ) → n < 2 ^ 64 → IsNumber (decimal n) × (digits_value 10 (decimal n) ≡ n)
