-- The group lock: powers of a base, by a modulus and an order.
use Rattle.std.specs.Prelude.{◌≡◌, ℕ, ◌+◌, ◌*◌, ◌%◌, ◌^◌, ◌<◌, ◌≤◌, List, ◌++◌, replicate}
use Rattle.octets.specs.Numbers.{bytes_of, number_of}
use Rattle.octets.specs.Places.{part}
use Rattle.locks.specs.Meaning.{Meaning}

-- The numbers that a group may be made of.
pub record Allowed (p q g : ℕ) : Type 0 where
  pub modulus_least : 3 ≤ p
  pub modulus_most : p < 2 ^ 31
  pub order_least : 2 ≤ q
  pub order_most : q < 2 ^ 31
  pub base_least : 2 ≤ g
  pub base_most : g < p
  pub turns : g ^ q % p ≡ 1

-- Of 32 bytes the last eight are read as a number.
abbrev pub number_in : List ℕ → ℕ
number_in bs = number_of (part 24 8 bs)

-- A number is written as 24 zero bytes and its eight.
abbrev pub as_value : ℕ → List ℕ
as_value n = replicate 24 0 ++ bytes_of 8 n

-- The lock value of key k is g^(k mod q) mod p; a value v is carried to (v mod p) · g^(t mod q) mod p, a key k to (k mod q + t mod q) mod q.
abbrev pub group_lock : (p q g : ℕ) → Meaning
group_lock p q g =
    record {
      value_of = λ key. as_value (g ^ (number_in key % q) % p);
      carried_value = λ value tweak. as_value ((number_in value % p) * g ^ (number_in tweak % q) % p);
      carried_key = λ key tweak. as_value ((number_in key % q + number_in tweak % q) % q);
    }
