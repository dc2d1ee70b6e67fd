-- Trailing zeros: what they say of a number, and which number has them.
use Rattle.std.proofs.Common.{◌≡◌, ℕ, zero, suc, ◌+◌, ◌*◌, ◌/◌, ◌%◌, ◌^◌, ◌<◌, ◌≤◌, min, sym, refl, ap, ◌∙◌, ⊎_elim, mul-le-mul_right, mul_assoc, suc-mul, mul_comm, arith}
use Rattle.std.proofs.lemmas.Bool.{cases_lt}
use lib.Count.{count_trailing_zeros, under}
use native.Mathlib.Nat.{pow-succ'}

-- The next power, and its multiples.
twice : (b : ℕ) → 2 ^ suc b ≡ 2 * 2 ^ b
twice b = pow-succ' 2 b

double : (q b : ℕ) → q * 2 ^ suc b ≡ 2 * (q * 2 ^ b)
double q b = ap (λ x. q * x) (twice b) ∙ sym (mul_assoc q 2 (2 ^ b)) ∙ ap (λ x. x * 2 ^ b) (mul_comm q 2) ∙ mul_assoc 2 q (2 ^ b)

-- The lowest digit decides: zero goes on with the half, one stops.
module _ (width n : ℕ) where
  pub even_zeros : n % 2 ≡ 0 → count_trailing_zeros (suc width) n ≡ suc (count_trailing_zeros width (n / 2))
  unfolding count_trailing_zeros
  even_zeros e = ap (λ d. under d (count_trailing_zeros width (n / 2))) e

  pub odd_zeros : n % 2 ≡ 1 → count_trailing_zeros (suc width) n ≡ 0
  unfolding count_trailing_zeros
  odd_zeros e = ap (λ d. under d (count_trailing_zeros width (n / 2))) e

-- Zeros of a wider count are cut at a narrower one.
pub narrower : (narrow wide n : ℕ) → narrow ≤ wide → min (count_trailing_zeros wide n) narrow ≡ count_trailing_zeros narrow n
unfolding count_trailing_zeros
narrower zero wide n h = omega arith
narrower (suc narrow) zero n h = absurd (omega arith)
narrower (suc narrow) (suc wide) n h = by (n % 2) (narrower narrow wide (n / 2) (omega arith))
  where
    by : (d : ℕ) → min (count_trailing_zeros wide (n / 2)) narrow ≡ count_trailing_zeros narrow (n / 2) → min (under d (count_trailing_zeros wide (n / 2))) (suc narrow) ≡ under d (count_trailing_zeros narrow (n / 2))
    by zero half = omega arith
    by (suc d) half = omega arith

-- A number with more than c trailing zeros is an even multiple of 2^c.
pub multiple : (width n c : ℕ) → c < count_trailing_zeros width n → (q : ℕ) × (n ≡ 2 * (q * 2 ^ c))
unfolding count_trailing_zeros
multiple zero n c h = absurd (omega arith)
multiple (suc width) n c h = by (n % 2) refl c h (λ c' h'. multiple width (n / 2) c' h')
  where
    by : (d : ℕ) → n % 2 ≡ d → (c : ℕ) → c < under d (count_trailing_zeros width (n / 2)) → ((c' : ℕ) → c' < count_trailing_zeros width (n / 2) → (q : ℕ) × (n / 2 ≡ 2 * (q * 2 ^ c'))) → (q : ℕ) × (n ≡ 2 * (q * 2 ^ c))
    by zero even zero h half = (n / 2, omega arith)
    by zero even (suc c) h half = let m = half c (omega arith) in (m.0, omega (arith, m.1, double m.0 c))
    by (suc d) odd c h half = absurd (omega arith)

-- Such a number has room for 2^c more within its width.
pub room : (width n c : ℕ) → n < 2 ^ width → c < count_trailing_zeros width n → n + 2 ^ c < 2 ^ width
unfolding count_trailing_zeros
room zero n c small h = absurd (omega arith)
room (suc width) n c small h = by (n % 2) refl c h (λ c' h'. room width (n / 2) c' (omega (arith, twice width)) h')
  where
    by : (d : ℕ) → n % 2 ≡ d → (c : ℕ) → c < under d (count_trailing_zeros width (n / 2)) → ((c' : ℕ) → c' < count_trailing_zeros width (n / 2) → n / 2 + 2 ^ c' < 2 ^ width) → n + 2 ^ c < 2 ^ suc width
    by zero even zero h half = omega (arith, twice width)
    by zero even (suc c) h half = let m = half c (omega arith) in omega (arith, twice width, twice c)
    by (suc d) odd c h half = absurd (omega arith)

-- The trailing zeros of a number whose lowest set digit is c.
pub lowest : (width c q : ℕ) → c < width → count_trailing_zeros width (2 * (q * 2 ^ c) + 2 ^ c) ≡ c
lowest zero c q h = absurd (omega arith)
lowest (suc width) zero q h = odd_zeros width (2 * (q * 2 ^ 0) + 2 ^ 0) (omega arith)
lowest (suc width) (suc c) q h =
    let n = 2 * (q * 2 ^ suc c) + 2 ^ suc c in
    let half : n / 2 ≡ 2 * (q * 2 ^ c) + 2 ^ c = omega (arith, double q c, twice c) in
    even_zeros width n (omega (arith, double q c, twice c)) ∙ ap (λ m. suc (count_trailing_zeros width m)) half ∙ ap suc (lowest width c q (omega arith))

-- A number that has a lowest set digit within its width.
pub shape : (width n : ℕ) → count_trailing_zeros width n < width → (q : ℕ) × (n ≡ 2 * (q * 2 ^ count_trailing_zeros width n) + 2 ^ count_trailing_zeros width n)
unfolding count_trailing_zeros
shape zero n h = absurd (omega arith)
shape (suc width) n h = by (n % 2) refl h (λ h'. shape width (n / 2) h')
  where
    by : (d : ℕ) → n % 2 ≡ d → under d (count_trailing_zeros width (n / 2)) < suc width
        → (count_trailing_zeros width (n / 2) < width → (q : ℕ) × (n / 2 ≡ 2 * (q * 2 ^ count_trailing_zeros width (n / 2)) + 2 ^ count_trailing_zeros width (n / 2)))
        → (q : ℕ) × (n ≡ 2 * (q * 2 ^ under d (count_trailing_zeros width (n / 2))) + 2 ^ under d (count_trailing_zeros width (n / 2)))
    by zero even h half = let m = half (omega arith) in (m.0, omega (arith, m.1, double m.0 (count_trailing_zeros width (n / 2)), twice (count_trailing_zeros width (n / 2))))
    by (suc d) odd h half = (n / 2, omega arith)

-- Zeros all along the width are zero.
pub all_zeros : (width n : ℕ) → count_trailing_zeros width n ≡ width → n < 2 ^ width → n ≡ 0
unfolding count_trailing_zeros
all_zeros zero n e small = omega arith
all_zeros (suc width) n e small = by (n % 2) refl e (λ e'. all_zeros width (n / 2) e' (omega (arith, twice width)))
  where
    by : (d : ℕ) → n % 2 ≡ d → under d (count_trailing_zeros width (n / 2)) ≡ suc width → (count_trailing_zeros width (n / 2) ≡ width → n / 2 ≡ 0) → n ≡ 0
    by zero even e half = let m = half (omega arith) in omega arith
    by (suc d) odd e half = absurd (omega arith)

-- Two numbers with the same lowest set digit c that lie less than 2^(c + 1) apart are one.
pub close : (c q r : ℕ) → 2 * (q * 2 ^ c) ≤ 2 * (r * 2 ^ c) → 2 * (r * 2 ^ c) < 2 * (q * 2 ^ c) + 2 * 2 ^ c → q * 2 ^ c ≡ r * 2 ^ c
close c q r low high =
    ⊎_elim (λ (l : q < r). let m = mul-le-mul_right {m = suc q} {n = r} (2 ^ c) l in absurd (omega (arith, suc-mul q (2 ^ c))))
    (λ (l : r ≤ q). let m = mul-le-mul_right {m = r} {n = q} (2 ^ c) l in omega arith)
    (cases_lt q r)
