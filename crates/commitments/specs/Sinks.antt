-- Putting bytes into a sink, one piece behind another.
use Rattle.std.specs.Prelude.{◌≡◌, ℕ, ◌+◌, List, ◌++◌, length}
use Rattle.octets.specs.Places.{over}

-- The row with a piece over it from a place on, and the place behind it.
pub record Filled (at : ℕ) (row piece : List ℕ) (next : ℕ) (filled : List ℕ) : Type 0 where
  pub bytes : filled ≡ over row at piece
  pub behind : next ≡ at + length piece
  pub long : length filled ≡ length row

-- A sink that had taken any bytes since any start has taken the piece behind them.
abbrev pub Puts : {S : Type 0} → (S → List ℕ → S → Type 0) → S → List ℕ → S → Type 0
Puts {S} took before piece after = (start : S) (m : List ℕ) → took start m before → took start (m ++ piece) after
