-- What the test of containing says of each asset, and what it settles.
use Rattle.std.specs.Prelude.{◌≡◌, ℕ, ◌<◌, ◌≤◌, cond, leb, Some, None, Decides, Option, refl}
use Rattle.std.proofs.lemmas.Bool.{leb-true, le-leb, cond-true}
use Rattle.std.proofs.lemmas.Bool.Decides.{Decides-below_and}
use Rattle.money.specs.Amounts.{Amount, contains}

pub contains_decides : (n : ℕ) (f g : Amount) → Decides (contains n f g) ((k : ℕ) → k < n → g k ≤ f k)
unfolding contains
contains_decides n f g =
    Decides-below_and (λ k. leb (g k) (f k)) (λ k. g k ≤ f k) (λ m. contains m f g) (λ k. (leb-true (g k) (f k), le-leb (g k) (f k))) refl (λ _. refl) n

-- An amount, given where f contains g: the form of sum, difference and reading.
abbrev pub given_where : ℕ → Amount → Amount → Amount → Option Amount
given_where n f g h = cond (contains n f g) (Some h) None

module _ (n : ℕ) (f g h : Amount) where
  pub given : ((k : ℕ) → k < n → g k ≤ f k) → given_where n f g h ≡ Some h
  given each = cond-true (contains n f g) (Some h) None ((contains_decides n f g).1 each)
