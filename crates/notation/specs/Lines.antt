-- Lines, and the words in them.
use Rattle.std.specs.Prelude.{◌≡◌, ℕ, ◌+◌, ◌-◌, ◌<◌, Bool, cond, not, ◌&&◌, ◌||◌, List, [], length, take, drop, Some, None, Option, ◌==◌, nat_le, slice_index}
use Rattle.std.specs.Borrow.{Bor}
use Rattle.std.specs.List.{prefix_len}

-- How many characters at the front pass a test.
abbrev pub front : (ℕ → Bool) → List ℕ → ℕ
front test text = prefix_len test text

-- All characters pass a test.
abbrev pub all_pass : (ℕ → Bool) → List ℕ → Bool
all_pass test text = front test text == length text

-- Words are separated by spaces and tabs.
abbrev pub is_blank : ℕ → Bool
is_blank c = c == 32 || c == 9

abbrev pub is_letter : ℕ → Bool
is_letter c = not (is_blank c)

-- A line goes on until a line feed.
abbrev pub is_in_line : ℕ → Bool
is_in_line c = not (c == 10)

-- A line that is read has printable characters and tabs alone.
abbrev pub is_printable : ℕ → Bool
is_printable c = (nat_le 32 c && nat_le c 126) || c == 9

-- The first line of a text, and what stands behind its line feed.
abbrev pub first_line : List ℕ → List ℕ
first_line text = take (front is_in_line text) text

abbrev pub later_lines : List ℕ → List ℕ
later_lines text = drop (front is_in_line text + 1) text

-- The next line of a text and what is left of it, or nothing where the text is empty.
abbrev pub NextLine : List ℕ → Option (Bor (List ℕ)) → List ℕ → Type 0
NextLine text (Some line) rest = (0 < length text) × (line.now ≡ first_line text) × (rest ≡ later_lines text)
NextLine text None rest = (text ≡ []) × (rest ≡ [])

-- A carriage return at the end of a line is no part of it.
abbrev pub without_return : List ℕ → List ℕ
without_return line = cond (slice_index line (length line - 1) == 13) (take (length line - 1) line) line

-- What stands behind the blanks at the front.
abbrev pub trimmed : List ℕ → List ℕ
trimmed line = drop (front is_blank line) line

-- The first word, and what stands behind it.
abbrev pub first_word : List ℕ → List ℕ
first_word line = take (front is_letter (trimmed line)) (trimmed line)

abbrev pub later_words : List ℕ → List ℕ
later_words line = drop (front is_letter (trimmed line)) (trimmed line)

-- A word and the rest, or nothing where only blanks are left.
abbrev pub Splits : List ℕ → Option (Bor (List ℕ) × Bor (List ℕ)) → Type 0
Splits line (Some split) = (front is_blank line < length line) × (0 < length (first_word line)) × (split.0.now ≡ first_word line) × (split.1.now ≡ later_words line)
Splits line None = (front is_blank line ≡ length line) × (first_word line ≡ [])

-- A line is passed over where it has no word, or begins with `#`.
abbrev pub passed_over : List ℕ → Bool
passed_over line = slice_index line 0 == 35 || all_pass is_blank line

-- A line that is not passed over is read only if all of it can be printed.
abbrev pub printable : List ℕ → Bool
printable line = all_pass is_printable line
