-- The statement at the end of a book.
use Rattle.std.specs.Prelude.{◌≡◌, ℕ, ◌+◌, ◌-◌, ◌^◌, min, List, ◌++◌, Ok, Err, codes, decimal}
use Rattle.desk.specs.declared.pages.Statement.{Statement}
use Rattle.desk.specs.Answers.{Reply}

-- A count stops at the most that 64 bits hold.
abbrev pub capped : ℕ → ℕ
capped n = min n (2 ^ 64 - 1)

-- An answer counts once: as taken, or as declined.
abbrev pub Entered : Statement → Reply → Statement → Type 0
Entered before (Ok text) after = (after.taken ≡ capped (before.taken + 1)) × (after.declined ≡ before.declined)
Entered before (Err decline) after = (after.taken ≡ before.taken) × (after.declined ≡ capped (before.declined + 1))

-- The line that ends the pages.
abbrev pub statement_text : Statement → List ℕ
statement_text s =
    codes "book: " ++ (decimal (capped (s.taken + s.declined)) ++ (codes " pages, " ++ (decimal s.taken ++ (codes " taken, " ++ (decimal s.declined ++ codes " declined, 0 not made")))))
