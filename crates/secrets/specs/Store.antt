-- The store of the peer's secrets: 49 places.
use Rattle.std.specs.Prelude.{◌≡◌, ℕ, zero, suc, ◌*◌, ◌/◌, ◌^◌, ◌<◌, Bool, true, cond, ◌&&◌, List, [], ◌∷◌, replicate, Some, None, Option, ◌==◌, slice_index_or, slice_set}
use Rattle.std.specs.Int.Count.{count_trailing_zeros}
use Rattle.std.specs.Str.{bytes_eq}
use Rattle.secrets.specs.declared.known.Known.{Known}
use Rattle.secrets.specs.Derivation.{derived, index_of, secret_of}

-- A place is empty, or holds an index and its secret.
abbrev pub Places : Type 0
Places = List (Option Known)

abbrev pub no_secrets : Places
no_secrets = replicate 49 None

-- An index goes to the place of its trailing zeros; index 0 goes to place 48.
abbrev pub place_of : ℕ → ℕ
place_of index = count_trailing_zeros 48 index

-- An index with its low b bits cleared.
abbrev pub cleared : ℕ → ℕ → ℕ
cleared index b = index / 2 ^ b * 2 ^ b

-- A secret of place b agrees with a lower place: deriving that place's index from it over b bits gives that place's secret.
abbrev pub agrees : List ℕ → ℕ → Option Known → Bool
agrees secret b None = true
agrees secret b (Some known) = bytes_eq (derived secret known.index b) known.secret

abbrev pub agrees_below : List ℕ → ℕ → Places → ℕ → Bool
agrees_below secret b places zero = true
agrees_below secret b places (suc c) = agrees secret b (slice_index_or places c None) && agrees_below secret b places c

-- A secret fits exactly when it agrees with each place below its own.
unfoldable pub fits : Places → ℕ → List ℕ → Bool
fits places index secret = agrees_below secret (place_of index) places (place_of index)

-- A secret that fits goes to its place.
unfoldable pub kept : Places → ℕ → List ℕ → Places
kept places index secret = slice_set places (place_of index) (Some (record { index = index; secret = secret }))

-- What a place answers for an index: its secret derived over b bits, where its index is that index with b bits cleared.
abbrev pub answered : ℕ → ℕ → Option Known → Option (List ℕ)
answered index b None = None
answered index b (Some known) = cond (known.index == cleared index b) (Some (derived known.secret index b)) None

-- The first answer.
abbrev pub first_of : Option (List ℕ) → Option (List ℕ) → Option (List ℕ)
first_of None later = later
first_of (Some secret) later = Some secret

abbrev pub older_from : ℕ → Places → ℕ → Option (List ℕ)
older_from b [] index = None
older_from b (place ∷ places) index = first_of (answered index b place) (older_from (suc b) places index)

-- An older secret comes from the first place that answers.
unfoldable pub older : Places → ℕ → Option (List ℕ)
older places index = older_from 0 places index

-- So many secrets were taken, in the order of their numbers from 0 on: s gives the secret of each number.
pub data Taken (s : ℕ → List ℕ) : ℕ → Places → Type 0 where
  none : Taken s 0 no_secrets
  one_more : (count : ℕ) (places : Places) → Taken s count places → count < 2 ^ 48 → fits places (index_of count) (s count) ≡ true
      → Taken s (suc count) (kept places (index_of count) (s count))

-- Every secret that was taken comes back unaltered.
abbrev pub ComesBack : Type 0
ComesBack = (s : ℕ → List ℕ) (count : ℕ) (places : Places) → Taken s count places → (number : ℕ) → number < count → older places (index_of number) ≡ Some (s number)

-- Secrets that are all derived from one seed are all taken.
abbrev pub HonestFits : Type 0
HonestFits = (seed : List ℕ) (count : ℕ) (places : Places) → Taken (secret_of seed) count places → count < 2 ^ 48 → fits places (index_of count) (secret_of seed count) ≡ true
