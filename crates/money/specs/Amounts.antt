-- Amounts of money: one whole number for each asset, and the arithmetic of the rules on them.
use Rattle.std.specs.Prelude.{ℕ, zero, suc, ◌+◌, ◌-◌, min, Bool, true, cond, ◌&&◌, List, Some, None, Option, ◌==◌, nat_le, slice_index}

-- An amount says of each asset how many units it holds; past the last asset it holds none.
abbrev pub Amount : Type 0
Amount = ℕ → ℕ

-- A row of numbers as an amount, one for each asset.
abbrev pub row : List ℕ → Amount
row numbers k = slice_index numbers k

-- Nothing is zero everywhere.
abbrev pub nothing : Amount
nothing k = 0

-- The first amount contains the second: in each of so many assets it holds as many units or more.
unfoldable pub contains : ℕ → Amount → Amount → Bool
contains zero f g = true
contains (suc n) f g = nat_le (g n) (f n) && contains n f g

-- An amount, refused exactly when one of so many assets passes the limit.
abbrev pub limited : ℕ → ℕ → Amount → Option Amount
limited n limit f = cond (contains n (λ _. limit) f) (Some f) None

-- The sum, asset by asset, refused exactly when an asset passes the limit.
abbrev pub sum_of : ℕ → ℕ → Amount → Amount → Option Amount
sum_of n limit f g = limited n limit (λ k. f k + g k)

-- The difference, asset by asset, refused exactly when an asset would fall below zero.
abbrev pub difference_of : ℕ → Amount → Amount → Option Amount
difference_of n f g = cond (contains n f g) (Some (λ k. f k - g k)) None

-- So many units from a balance: in asset 0 the smaller of the number and what the balance holds there, and zero elsewhere.
abbrev pub units_from : ℕ → Amount → Amount
units_from units balance k = cond (k == 0) (min units (balance k)) 0
