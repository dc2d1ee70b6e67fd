-- Reading a number back gives it, and writing what was read gives its bytes, at every width.
use Rattle.std.proofs.Common.{◌≡◌, ℕ, zero, suc, ◌+◌, ◌*◌, ◌/◌, ◌%◌, ◌^◌, ◌<◌, List, [], ◌∷◌, length, sym, refl, ap, ◌∙◌, mod-eq_of_lt, mul_assoc, mul-pos, arith}
use lib.Arith.{mod-mul, digits_lt, digits_div}
use native.Mathlib.Nat.{pow-succ', mod-one, mul-add-div_right, mul-add-mod_self_right}
use Rattle.octets.specs.Numbers.{bytes_of, number_of, Bytes}

-- So many bytes are as many.
pub bytes_length : (w n : ℕ) → length (bytes_of w n) ≡ w
bytes_length zero n = refl
bytes_length (suc w) n = ap suc (bytes_length w n)

weight_pos : (w : ℕ) → 0 < 256 ^ w
weight_pos zero = omega arith
weight_pos (suc w) = rw (pow-succ' 256 w) (mul-pos (omega arith) (weight_pos w))

-- The bytes of a number stand for it, as far as they reach.
pub number_bytes : (w n : ℕ) → number_of (bytes_of w n) ≡ n % 256 ^ w
number_bytes zero n = sym (mod-one n)
number_bytes (suc w) n =
    ap (λ l. n / 256 ^ w % 256 * 256 ^ l + number_of (bytes_of w n)) (bytes_length w n)
    ∙ ap (λ r. n / 256 ^ w % 256 * 256 ^ w + r) (number_bytes w n)
    ∙ sym (ap (λ m. n % m) (pow-succ' 256 w) ∙ mod-mul n (omega arith) (weight_pos w))

-- A number that fits its bytes is read back.
pub number_back : (w n : ℕ) → n < 256 ^ w → number_of (bytes_of w n) ≡ n
number_back w n h = number_bytes w n ∙ mod-eq_of_lt h

-- Bytes stand for a number that fits them.
pub number_fits : (bs : List ℕ) → Bytes bs → number_of bs < 256 ^ length bs
number_fits [] h = omega arith
number_fits (b ∷ bs) h = rw (pow-succ' 256 (length bs)) (digits_lt (h 0) (number_fits bs (λ i. h (suc i))))

-- The low bytes of a number do not see what lies above them.
low_bytes : (w q n : ℕ) → bytes_of w (q * 256 ^ w + n) ≡ bytes_of w n
low_bytes zero q n = refl
low_bytes (suc w) q n =
    let split : q * 256 ^ suc w + n ≡ q * 256 * 256 ^ w + n = ap (λ m. q * m + n) (pow-succ' 256 w) ∙ ap (λ m. m + n) (sym (mul_assoc q 256 (256 ^ w))) in
    let top : (q * 256 * 256 ^ w + n) / 256 ^ w % 256 ≡ n / 256 ^ w % 256 =
    ap (λ m. m % 256) (mul-add-div_right (weight_pos w) (q * 256) n) ∙ mul-add-mod_self_right q 256 (n / 256 ^ w) in
    ap (λ m. bytes_of (suc w) m) split ∙ (λ i. top i ∷ low_bytes w (q * 256) n i)

-- Writing what was read gives its bytes.
pub bytes_back : (bs : List ℕ) → Bytes bs → bytes_of (length bs) (number_of bs) ≡ bs
bytes_back [] h = refl
bytes_back (b ∷ bs) h =
    let rest = number_fits bs (λ i. h (suc i)) in
    let top : (b * 256 ^ length bs + number_of bs) / 256 ^ length bs % 256 ≡ b = ap (λ m. m % 256) (digits_div b rest) ∙ mod-eq_of_lt (h 0) in
    let low = low_bytes (length bs) b (number_of bs) ∙ bytes_back bs (λ i. h (suc i)) in
    λ i. top i ∷ low i
