-- Where the rounds of a block stand.
use Rattle.std.specs.Prelude.{◌≡◌, ℕ, List, take}
use Rattle.sha256.specs.Fips.{schedule, rounds}

-- After t rounds from a hash value: the schedule's words so far at the front of w, and the working variables.
pub record Turned (start block : List ℕ) (t : ℕ) (w s : List ℕ) : Type 0 where
  pub words : take t w ≡ schedule block t
  pub variables : s ≡ rounds start block t
