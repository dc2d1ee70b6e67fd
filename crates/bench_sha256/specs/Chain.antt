-- A chain of digests from 32 zero bytes on.
use Rattle.std.specs.Prelude.{ℕ, zero, suc, List, replicate}
use Rattle.sha256.specs.Fips.{hash}

-- The value after so many digests.
unfoldable pub chain : ℕ → List ℕ
chain zero = replicate 32 0
chain (suc n) = hash (chain n)
