-- Numbers in bytes, the highest byte first.
use Rattle.std.specs.Prelude.{◌≡◌, ℕ, zero, suc, ◌+◌, ◌*◌, ◌/◌, ◌%◌, ◌^◌, ◌<◌, List, [], ◌∷◌, length, slice_index}

-- The so many bytes of a number: each by its weight, a power of 256.
abbrev pub bytes_of : ℕ → ℕ → List ℕ
bytes_of zero n = []
bytes_of (suc w) n = (n / 256 ^ w % 256) ∷ bytes_of w n

-- The number that bytes stand for: each byte times its weight.
abbrev pub number_of : List ℕ → ℕ
number_of [] = 0
number_of (b ∷ bs) = b * 256 ^ length bs + number_of bs

-- A row of bytes: each below 256.
abbrev pub Bytes : List ℕ → Type 0
Bytes bs = (i : ℕ) → slice_index bs i < 256

-- Reading reverses writing at every width, and writing reverses reading.
abbrev pub Reversed : Type 0
Reversed = ((w n : ℕ) → n < 256 ^ w → number_of (bytes_of w n) ≡ n) × ((bs : List ℕ) → Bytes bs → bytes_of (length bs) (number_of bs) ≡ bs)
