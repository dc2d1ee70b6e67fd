-- How far the characters of a text pass a test.
use Rattle.std.proofs.Common.{◌≡◌, ℕ, ◌<◌, ◌≤◌, Bool, true, false, cond, not, eqb, ltb, List, [], ◌∷◌, length, get_or, take, Some, None, Option, MatchOption, refl, sym, ap, subst, arith}
use Rattle.std.specs.List.{prefix_len, position, position_or_len, list_all, starts_with}
use Rattle.std.specs.Option.{unwrap_or}
use Rattle.std.proofs.Math.Bool.{not-not}
use Rattle.std.proofs.lemmas.Bool.Decides.{nat_tests}
use Rattle.std.proofs.lemmas.List.{drop_all, length-take, length-drop}
use Rattle.std.proofs.lemmas.List.Sums.{prefix_len_is, prefix_len-le-length, prefix_len-drop_yes, prefix_len_stops}
use Rattle.memchr.specs.Find.{IsFirstByte, is_byte}
use Rattle.notation.specs.Lines.{front, all_pass, is_blank, is_letter, first_word}

at_place : (r : Option ℕ) (n m : ℕ) → n ≤ m → r ≡ cond (ltb n m) (Some n) None → MatchOption r (n ≡ m) (λ i. (i ≡ n) × (i < m))
at_place None n m within e = grind arith
at_place (Some i) n m within e = grind arith

-- What a search for the first character that passes a test finds.
pub searched : (test : ℕ → Bool) (text : List ℕ) (r : Option ℕ) → r ≡ position test text → MatchOption r (position_or_len test text ≡ length text) (λ i. (i ≡ position_or_len test text) × (i < length text))
searched test text r e = at_place r (position_or_len test text) (length text) (prefix_len-le-length (λ c. not (test c)) text) e

or_end : (r : Option ℕ) (n m : ℕ) → MatchOption r (n ≡ m) (λ i. (i ≡ n) × (i < m)) → unwrap_or r m ≡ n
or_end None n m at = omega arith
or_end (Some i) n m at = at.0

pub searched_or_end : (test : ℕ → Bool) (text : List ℕ) (r : Option ℕ) → r ≡ position test text → unwrap_or r (length text) ≡ position_or_len test text
searched_or_end test text r e = or_end r (position_or_len test text) (length text) (searched test text r e)

passes : (b : Bool) → (b ≡ true → ⊥) → not b ≡ true
passes true n = absurd (n refl)
passes false n = refl

-- Where a byte stands first, the front without it ends; where it stands nowhere, the front is the whole text.
first_at : (a : ℕ) (text : List ℕ) (r : Option ℕ) → IsFirstByte (is_byte a) text r → MatchOption r (front (λ c. not (eqb c a)) text ≡ length text) (λ i. (i ≡ front (λ c. not (eqb c a)) text) × (i < length text))
first_at a text None found =
    prefix_len_is (λ c. not (eqb c a)) text (length text) 0 (omega arith) (λ k l. passes (eqb (get_or text k 0) a) (found k (omega arith) l)) (λ l. absurd (omega arith))
first_at a text (Some i) found =
    let none = found.0.before in
    let high = found.0.high in
    (sym (prefix_len_is (λ c. not (eqb c a)) text i 0 (omega arith) (λ k l. passes (eqb (get_or text k 0) a) (none k (omega arith) l)) (λ l. ap not found.1)), high)

pub first_found : (a : ℕ) (text : List ℕ) (s r : Option ℕ) → s ≡ r → IsFirstByte (is_byte a) text s → MatchOption r (front (λ c. not (eqb c a)) text ≡ length text) (λ i. (i ≡ front (λ c. not (eqb c a)) text) × (i < length text))
first_found a text s r same found = first_at a text r (subst (IsFirstByte (is_byte a) text) same found)

-- All characters pass where the front is as long as the text.
pub all_is : (test : ℕ → Bool) (text : List ℕ) → list_all test text ≡ all_pass test text
all_is test [] = refl
all_is test (c ∷ cs) = grind (arith, all_is test cs)

-- The blanks end at the first letter.
pub to_letter : (line : List ℕ) → position_or_len is_letter line ≡ front is_blank line
to_letter line = ap (λ test. prefix_len test line) (λ i c. not-not (is_blank c) i)

-- The word behind the blanks has a letter, if anything stands there.
pub has_letter : (line : List ℕ) → front is_blank line < length line → 0 < length (first_word line)
has_letter line inside =
    let start = front is_blank line in
    let letter = ap not (prefix_len_stops is_blank line 0 inside) in
    let more = prefix_len-drop_yes is_letter line start 0 inside letter in
    simp (length-take, length-drop) (omega arith)

-- Behind blanks alone there is no word.
pub no_letter : (line : List ℕ) → front is_blank line ≡ length line → first_word line ≡ []
no_letter line over = ap (λ t. take (front is_letter t) t) (drop_all (front is_blank line) line (omega arith))

-- Whether a line begins with `#`.
pub first_is : (line : List ℕ) → starts_with eqb line (35 ∷ []) ≡ eqb (get_or line 0 0) 35
first_is [] = refl
first_is (c ∷ cs) = grind (arith, nat_tests)
