-- What a lock means: fixed functions on values, keys and tweaks of 32 bytes.
use Rattle.std.specs.Prelude.{ℕ, List}
use Rattle.sha256.specs.Fips.{hash}

pub record Meaning : Type 0 where
  -- the lock value of a key
  pub value_of : List ℕ → List ℕ
  -- a lock value carried by a tweak
  pub carried_value : (value tweak : List ℕ) → List ℕ
  -- a key carried by a tweak
  pub carried_key : (key tweak : List ℕ) → List ℕ

-- The hash lock: the value is the SHA-256 of the key, and carrying changes neither.
abbrev pub hash_lock : Meaning
hash_lock = record { value_of = hash; carried_value = λ value tweak. value; carried_key = λ key tweak. key }
