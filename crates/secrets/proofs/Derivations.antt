-- Derivation bit by bit, and by way of an index whose low bits are cleared.
use Rattle.std.proofs.Common.{◌≡◌, ℕ, zero, suc, ◌+◌, ◌-◌, ◌*◌, ◌/◌, ◌%◌, ◌^◌, ◌<◌, ◌≤◌, false, cond, eqb, List, sym, refl, ap, ◌∙◌, ⊎_elim, mul_assoc, mul_comm, sub-one, arith}
use Rattle.std.proofs.lemmas.Nat.{shl-shr, shr-shr, pow-add}
use Rattle.std.proofs.lemmas.Bool.{cases_lt}
use native.Mathlib.Nat.{pow-succ'}
use Rattle.sha256.specs.Fips.{hash}
use Rattle.secrets.specs.Derivation.{bit_set, flipped, turned, derived}
use Rattle.secrets.specs.Store.{cleared}

-- The next bit down.
pub derived_next : (value : List ℕ) (index b : ℕ) → 0 < b → derived (turned value index (b - 1)) index (b - 1) ≡ derived value index b
unfolding derived
derived_next value index zero h = absurd (omega arith)
derived_next value index (suc b) h = ap (λ n. derived (turned value index n) index n) (sub-one (suc b))

pub derived_done : (value : List ℕ) (index b : ℕ) → b ≤ 0 → derived value index b ≡ value
unfolding derived
derived_done value index zero h = refl
derived_done value index (suc b) h = absurd (omega arith)

-- Bits of an index whose low bits are cleared: the high ones stay, the low ones are not set.
high_bit : (index c b : ℕ) → c ≤ b → cleared index c / 2 ^ b ≡ index / 2 ^ b
high_bit index c b h =
    let d = b - c in
    let split : c + d ≡ b = omega arith in
    let at : (n : ℕ) → n / 2 ^ c / 2 ^ d ≡ n / 2 ^ b = λ n. shr-shr n c d ∙ ap (λ k. n / 2 ^ k) split in
    sym (at (cleared index c)) ∙ ap (λ n. n / 2 ^ d) (shl-shr (index / 2 ^ c) c) ∙ at index

-- Where an index is an even multiple of 2^b, its bit b is not set.
pub unset : (index b q : ℕ) → index ≡ 2 * (q * 2 ^ b) → bit_set index b ≡ false
unset index b q e =
    let product : index ≡ 2 * q * 2 ^ b = e ∙ sym (mul_assoc 2 q (2 ^ b)) in
    let half : index / 2 ^ b ≡ 2 * q = ap (λ n. n / 2 ^ b) product ∙ shl-shr (2 * q) b in
    let even : index / 2 ^ b % 2 ≡ 0 = omega arith in
    ap (λ n. eqb n 1) even

-- Derivation over bits that are not set changes nothing.
pub derived_unset : (value : List ℕ) (index b : ℕ) → ((c : ℕ) → c < b → bit_set index c ≡ false) → derived value index b ≡ value
unfolding derived
derived_unset value index zero none = refl
derived_unset value index (suc b) none =
    ap (λ t. derived (cond t (hash (flipped value b)) value) index b) (none b (omega arith)) ∙ derived_unset value index b (λ c h. none c (omega arith))

-- The low bits of a cleared index are not set.
cleared_unset : (index c b : ℕ) → b < c → bit_set (cleared index c) b ≡ false
cleared_unset index c b h =
    let d = c - suc b in
    let split : c ≡ suc (d + b) = omega arith in
    let powers : 2 ^ c ≡ 2 * (2 ^ d * 2 ^ b) = ap (λ n. 2 ^ n) split ∙ pow-succ' 2 (d + b) ∙ ap (λ n. 2 * n) (pow-add 2 d b) in
    let q = index / 2 ^ c in
    let product : q * 2 ^ c ≡ 2 * (q * 2 ^ d * 2 ^ b) =
    ap (λ n. q * n) powers ∙ sym (mul_assoc q 2 (2 ^ d * 2 ^ b)) ∙ ap (λ n. n * (2 ^ d * 2 ^ b)) (mul_comm q 2) ∙ mul_assoc 2 q (2 ^ d * 2 ^ b) ∙ ap (λ n. 2 * n) (sym (mul_assoc q (2 ^ d) (2 ^ b))) in
    unset (cleared index c) b (q * 2 ^ d) product

-- A derivation goes by way of the index with its low c bits cleared.
pub by_way : (value : List ℕ) (index c b : ℕ) → c ≤ b → derived value index b ≡ derived (derived value (cleared index c) b) index c
unfolding derived
by_way value index c zero h =
    let none : c ≡ 0 = omega arith in
    ap (λ n. derived value index n) (sym none)
by_way value index c (suc b) h = ⊎_elim (λ l. above l (by_way (turned value index b) index c b)) at_once (cases_lt c (suc b))
  where
    above : c < suc b → (c ≤ b → derived (turned value index b) index b ≡ derived (derived (turned value index b) (cleared index c) b) index c)
        → derived (turned value index b) index b ≡ derived (derived (turned value (cleared index c) b) (cleared index c) b) index c
    above l earlier =
        let same : bit_set (cleared index c) b ≡ bit_set index b = ap (λ n. eqb (n % 2) 1) (high_bit index c b (omega arith)) in
        earlier (omega arith) ∙ ap (λ t. derived (derived (cond t (hash (flipped value b)) value) (cleared index c) b) index c) (sym same)

    at_once : suc b ≤ c → derived (turned value index b) index b ≡ derived (derived (turned value (cleared index c) b) (cleared index c) b) index c
    at_once l =
        let whole : c ≡ suc b = omega arith in
        ap (λ n. derived value index n) (sym whole) ∙ ap (λ v. derived v index c) (sym (derived_unset value (cleared index c) (suc b) (λ d h. cleared_unset index c d (omega arith))))
