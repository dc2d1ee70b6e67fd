-- What a hasher holds of the bytes that it took in.
use Rattle.std.specs.Prelude.{◌≡◌, ℕ, ◌*◌, ◌/◌, ◌%◌, ◌^◌, List, length, take, drop}
use Rattle.sha256.specs.Fips.{hash_value}
use Rattle.sha256.specs.declared.hasher.Hasher.{Hasher}

-- The hash value after the whole blocks, the bytes behind them at the front of the block, and the count of all.
pub record Held (state block : List ℕ) (total : ℕ) (m : List ℕ) : Type 0 where
  pub value : state ≡ hash_value m
  pub rest : take (length m % 64) block ≡ drop (64 * (length m / 64)) m
  pub count : total ≡ length m % 2 ^ 64

-- The hasher has taken in these bytes.
abbrev pub Absorbed : Hasher → List ℕ → Type 0
Absorbed h m = Held h.state h.block h.total m
