-- What a money kind fixes: its assets, their limit, and how an amount stands in bytes.
use Rattle.std.specs.Prelude.{◌≡◌, ℕ, zero, suc, ◌*◌, List, [], ◌++◌, length}
use Rattle.octets.specs.Numbers.{bytes_of, number_of, Bytes}
use Rattle.octets.specs.Places.{part}
use Rattle.money.specs.Amounts.{Amount}

pub record Terms : Type 0 where
  -- how many assets there are
  pub assets : ℕ
  -- the most units of an asset
  pub limit : ℕ
  -- how many bytes a value takes
  pub width : ℕ
  -- the bytes of an amount
  pub written : Amount → List ℕ
  -- the amount that bytes stand for, before its limit is looked at
  pub stands : List ℕ → Amount

-- The first so many assets of an amount, eight bytes each, one behind the other.
abbrev pub eight_each : ℕ → Amount → List ℕ
eight_each zero f = []
eight_each (suc n) f = eight_each n f ++ bytes_of 8 (f n)

-- The most units of an asset that takes eight bytes.
abbrev pub eights_limit : ℕ
eights_limit = 2100000000000000

-- The terms of a kind with so many assets of eight bytes each: the satoshi has one, the basket four.
abbrev pub eights : ℕ → Terms
eights n = record { assets = n; limit = eights_limit; width = 8 * n; written = eight_each n; stands = λ bs k. number_of (part (8 * k) 8 bs) }

-- Bytes that are read write back as they were.
abbrev pub Rewritten : Terms → Type 0
Rewritten t = (bs : List ℕ) → Bytes bs → length bs ≡ t.width → t.written (t.stands bs) ≡ bs
