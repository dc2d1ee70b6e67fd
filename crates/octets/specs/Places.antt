-- Parts of a row of bytes, and what a write leaves of it.
use Rattle.std.specs.Prelude.{ℕ, ◌+◌, List, ◌++◌, length, take, drop}

-- So many bytes from a place on.
abbrev pub part : ℕ → ℕ → List ℕ → List ℕ
part at count bs = take count (drop at bs)

-- The row with a piece written over it from a place on, and nothing else altered.
unfoldable pub over : List ℕ → ℕ → List ℕ → List ℕ
over bs at piece = take at bs ++ (piece ++ drop (at + length piece) bs)
