-- Hex digits two by two.
use Rattle.std.proofs.Common.{◌≡◌, ℕ, suc, ◌+◌, ◌*◌, ◌/◌, ◌%◌, ◌<◌, ◌≤◌, List, [], ◌∷◌, ◌++◌, length, get_or, take, drop, Some, None, Option, sym, refl, ap, ◌∙◌, arith}
use Rattle.std.proofs.lemmas.List.{take_more, flat_map_more, append_assoc, append-nil}
use Rattle.std.proofs.lemmas.Bool.Decides.{nat_tests}
use Rattle.octets.specs.Numbers.{Bytes}
use Rattle.notation.specs.Hex.{digit_number, digit_of, hex_of, byte_of, before, bytes_from}

-- The digits of one byte more.
pub hex_more : (bs : List ℕ) (i : ℕ) → i < length bs → hex_of (take (i + 1) bs) ≡ hex_of (take i bs) ++ (digit_of (get_or bs i 0 / 16) ∷ digit_of (get_or bs i 0 % 16) ∷ [])
hex_more bs i h =
    ap hex_of (take_more bs i 0 h) ∙ sym (flat_map_more (λ (b : ℕ). digit_of (b / 16) ∷ digit_of (b % 16) ∷ []) [] (take i bs) (get_or bs i 0))

digit_back : (n : ℕ) → n < 16 → digit_number (digit_of n) ≡ Some n
digit_back n h = grind (arith, nat_tests)

-- Hex reads back what it writes.
pub hex_back : (bs : List ℕ) → Bytes bs → bytes_from (hex_of bs) ≡ Some bs
unfolding bytes_from
hex_back [] each = refl
hex_back (b ∷ bs) each =
    let small = each 0 in
    let whole : 16 * (b / 16) + b % 16 ≡ b = omega arith in
    (λ i. before (byte_of (digit_back (b / 16) (omega arith) i) (digit_back (b % 16) (omega arith) i)) (hex_back bs (λ k. each (suc k)) i)) ∙ ap (λ n. Some (n ∷ bs)) whole

-- Bytes that were read, before what is left to read.
abbrev pub then_read : List ℕ → Option (List ℕ) → Option (List ℕ)
then_read read (Some bs) = Some (read ++ bs)
then_read read None = None

pub read_none : (rest : Option (List ℕ)) → then_read [] rest ≡ rest
read_none (Some bs) = refl
read_none None = refl

then_one : (read : List ℕ) (b : ℕ) (rest : Option (List ℕ)) → then_read read (before (Some b) rest) ≡ then_read (read ++ b ∷ []) rest
then_one read b (Some bs) = ap Some (sym (append_assoc read (b ∷ []) bs))
then_one read b None = refl

-- The digits whose first two are this pair.
pub next_read : (digits pair rest : List ℕ) → pair ≡ take 2 digits → rest ≡ drop 2 digits → 2 ≤ length digits → bytes_from digits ≡ before (byte_of (digit_number (get_or pair 0 0)) (digit_number (get_or pair 1 0))) (bytes_from rest)
unfolding bytes_from
next_read [] pair rest p r two = absurd (omega arith)
next_read (a ∷ []) pair rest p r two = absurd (omega arith)
next_read (a ∷ (b ∷ ds)) pair rest p r two =
    λ i. before (byte_of (digit_number (get_or (sym p i) 0 0)) (digit_number (get_or (sym p i) 1 0))) (bytes_from (sym r i))

module _ (read digits rest : List ℕ) (next : Option ℕ) (whole : Option (List ℕ)) (step : bytes_from digits ≡ before next (bytes_from rest)) (so_far : then_read read (bytes_from digits) ≡ whole) where
  pub read_more : (b : ℕ) → Some b ≡ next → then_read (read ++ b ∷ []) (bytes_from rest) ≡ whole
  read_more b is = sym (then_one read b (bytes_from rest)) ∙ ap (λ o. then_read read (before o (bytes_from rest))) is ∙ ap (then_read read) (sym step) ∙ so_far

  pub read_stop : None ≡ next → whole ≡ None
  read_stop is = sym so_far ∙ ap (then_read read) step ∙ ap (λ o. then_read read (before o (bytes_from rest))) (sym is)

pub read_all : (read digits : List ℕ) (whole : Option (List ℕ)) → length digits ≡ 0 → then_read read (bytes_from digits) ≡ whole → whole ≡ Some read
unfolding bytes_from
read_all read [] whole none so_far = sym so_far ∙ ap Some (append-nil read)
read_all read (d ∷ ds) whole none so_far = absurd (omega arith)

none_before : (b : Option ℕ) → before b None ≡ None
none_before (Some b) = refl
none_before None = refl

-- An odd number of digits cannot be read.
pub odd_unread : (digits : List ℕ) → length digits % 2 ≡ 1 → bytes_from digits ≡ None
unfolding bytes_from
odd_unread [] odd = absurd (omega arith)
odd_unread (a ∷ []) odd = refl
odd_unread (a ∷ (b ∷ rest)) odd = ap (before (byte_of (digit_number a) (digit_number b))) (odd_unread rest (omega arith)) ∙ none_before (byte_of (digit_number a) (digit_number b))
