-- What the lines of a book ask for.
use Rattle.std.specs.Prelude.{◌≡◌, ℕ, zero, suc, ◌<◌, true, false, ◌⊎◌, List, [], length, Some, None, Ok, Err, vec_items, codes, Option, Result}
use Rattle.std.specs.Borrow.{Bor}
use Rattle.notation.specs.Hex.{bytes_from, value_from}
use Rattle.notation.specs.Lines.{front, is_blank, first_word, later_words, passed_over, printable}
use Rattle.notation.specs.Numbers.{ReadsNumber}
use Rattle.commands.specs.declared.command.Command.{Command}
use Rattle.commands.specs.declared.command.Command.TheVariants.{Sha, Read, Opens, CarryKey, CarryValue}
use Rattle.commands.specs.declared.command.LockName.{LockName}
use Rattle.commands.specs.declared.command.LockName.TheVariants.{Hash, Group}
use Rattle.commands.specs.declared.fault.Fault.{Fault}
use Rattle.commands.specs.declared.fault.Fault.TheVariants.{NoMemory}

-- What stands behind so many words, and the word there.
abbrev pub behind : ℕ → List ℕ → List ℕ
behind zero line = line
behind (suc n) line = behind n (later_words line)

abbrev pub word : ℕ → List ℕ → List ℕ
word n line = first_word (behind n line)

-- Nothing but blanks is left.
abbrev pub Ended : List ℕ → Type 0
Ended line = front is_blank line ≡ length line

-- A message is written in hex, an empty one as a dash.
abbrev pub IsMessage : List ℕ → List ℕ → Type 0
IsMessage w bytes = ((w ≡ codes "-") × (bytes ≡ [])) ⊎ ((0 < length w) × (bytes_from w ≡ Some bytes))

-- A number, and a value of 32 bytes.
abbrev pub IsNumber : List ℕ → ℕ → Type 0
IsNumber w n = ReadsNumber w (Some n)

abbrev pub IsValue : List ℕ → List ℕ → Type 0
IsValue w value = value_from w ≡ Some value

-- A lock is `hash`, or `group` and its modulus, order and base.
abbrev pub IsLock : List ℕ → LockName → Type 0
IsLock line Hash = word 0 line ≡ codes "hash"
IsLock line (Group modulus order base) = (word 0 line ≡ codes "group") × IsNumber (word 1 line) modulus × IsNumber (word 2 line) order × IsNumber (word 3 line) base

abbrev pub behind_lock : List ℕ → LockName → List ℕ
behind_lock line Hash = behind 1 line
behind_lock line (Group modulus order base) = behind 4 line

-- The name of each command.
abbrev pub name_of : Command → List ℕ
name_of (Sha message) = codes "sha"
name_of (Read channel message) = codes "read"
name_of (Opens lock key value) = codes "opens"
name_of (CarryKey lock key tweak) = codes "carry"
name_of (CarryValue lock value tweak) = codes "carry"

-- What each command takes behind a lock, and behind its name.
abbrev pub OpensWith : List ℕ → (key value : List ℕ) → Type 0
OpensWith line key value = IsValue (word 0 line) key × IsValue (word 1 line) value × Ended (behind 2 line)

abbrev pub Carries : List ℕ → (what carried tweak : List ℕ) → Type 0
Carries line what carried tweak = (word 0 line ≡ what) × IsValue (word 1 line) carried × IsValue (word 2 line) tweak × Ended (behind 3 line)

abbrev pub Takes : List ℕ → Command → Type 0
Takes line (Sha message) = IsMessage (word 0 line) (vec_items message) × Ended (behind 1 line)
Takes line (Read channel message) = IsNumber (word 0 line) channel × IsMessage (word 1 line) (vec_items message) × Ended (behind 2 line)
Takes line (Opens lock key value) = IsLock line lock × OpensWith (behind_lock line lock) key value
Takes line (CarryKey lock key tweak) = IsLock line lock × Carries (behind_lock line lock) (codes "key") key tweak
Takes line (CarryValue lock value tweak) = IsLock line lock × Carries (behind_lock line lock) (codes "value") value tweak

-- A line asks for a command by its name and what it takes.
abbrev pub Asks : List ℕ → Command → Type 0
Asks line command = (word 0 line ≡ name_of command) × Takes (behind 1 line) command

-- What is read fits; a refusal says that nothing fits, or that memory is wanting.
abbrev pub Reads : {A : Type 0} → (A → Type 0) → Result A Fault → Type 0
Reads Fits (Ok a) = Fits a
Reads {A} Fits (Err fault) = (fault ≡ NoMemory) ⊎ ((a : A) → Fits a → ⊥)

-- The next word of a line, which is missing where only blanks are left.
abbrev pub NextWord : List ℕ → Result (Bor (List ℕ)) Fault → Type 0
NextWord line (Ok w) = (w.now ≡ first_word line) × (0 < length (first_word line))
NextWord line (Err fault) = first_word line ≡ []

-- Every line is passed over, a command, or a fault: no line that asks for a command has a fault.
abbrev pub Parsed : List ℕ → Result (Option Command) Fault → Type 0
Parsed line (Ok None) = passed_over line ≡ true
Parsed line (Ok (Some command)) = (passed_over line ≡ false) × (printable line ≡ true) × Asks line command
Parsed line (Err fault) = (passed_over line ≡ false) × ((fault ≡ NoMemory) ⊎ ((command : Command) → printable line ≡ true → Asks line command → ⊥))
