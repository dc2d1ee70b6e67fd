-- Lemmas on powers of a base whose power at the order is one, from which the law of carrying follows.
use Rattle.std.specs.Prelude.{◌≡◌, ℕ, zero, suc, ◌+◌, ◌*◌, ◌/◌, ◌%◌, ◌^◌, ◌<◌, ◌≤◌, List, length}
use Rattle.std.proofs.Common.{sym, ap, ◌∙◌, mul_comm, one-mul, mul-zero, mul-suc, mul_assoc, mul_right_comm, add-mul, mod-lt, arith, pow-add}
use Rattle.std.proofs.Math.Nat.{pow-zero, mod-add-div', div-add-mod, mod-mod, add-mul-mod_self_right}
use Rattle.octets.proofs.Laws.{number_back}
use Rattle.locks.specs.Group.{number_in, as_value, group_lock}

-- A factor may be cut by the modulus before or after.
factor_mod : (a b m : ℕ) → (a % m * b) % m ≡ (a * b) % m
factor_mod a b m =
    sym
    (ap (λ x. (x * b) % m) (sym (mod-add-div' a m)) ∙ ap (λ x. x % m) (add-mul (a % m) (a / m * m) b ∙ ap (λ x. a % m * b + x) (mul_right_comm (a / m) m b))
    ∙ add-mul-mod_self_right (a % m * b) (a / m * b) m)

pub mod_factor : (a b m : ℕ) → (a * (b % m)) % m ≡ (a * b) % m
mod_factor a b m = ap (λ x. x % m) (mul_comm a (b % m)) ∙ factor_mod b a m ∙ ap (λ x. x % m) (mul_comm b a)

module _ (p q g : ℕ) (turn : g ^ q % p ≡ 1) where
  -- Whole turns of the order do not move a power.
  turns : (k a : ℕ) → g ^ (q * k) * a % p ≡ a % p
  turns zero a = ap (λ x. g ^ x * a % p) (mul-zero q) ∙ ap (λ x. x * a % p) (pow-zero g) ∙ ap (λ x. x % p) (one-mul a)
  turns (suc k) a =
      let apart : g ^ (q * suc k) * a ≡ g ^ (q * k) * (g ^ q * a) = ap (λ x. g ^ x * a) (mul-suc q k) ∙ ap (λ x. x * a) (pow-add g (q * k) q) ∙ mul_assoc (g ^ (q * k)) (g ^ q) a in
      ap (λ x. x % p) apart ∙ turns k (g ^ q * a) ∙ sym (factor_mod (g ^ q) a p) ∙ ap (λ x. x * a % p) turn ∙ ap (λ x. x % p) (one-mul a)

  -- So an exponent may be cut by the order.
  pub cut_exponent : (n : ℕ) → g ^ (n % q) % p ≡ g ^ n % p
  cut_exponent n = sym (ap (λ x. g ^ x % p) (sym (div-add-mod n q)) ∙ ap (λ x. x % p) (pow-add g (q * (n / q)) (n % q)) ∙ turns (n / q) (g ^ (n % q)))

-- Reading reverses writing, for every number of eight bytes.
pub number_of_value : (n : ℕ) → n < 256 ^ 8 → number_in (as_value n) ≡ n
number_of_value n h = number_back 8 n h

-- The law of carrying.
pub carrying : (p q g : ℕ) → 0 < p → p < 2 ^ 31 → 0 < q → q < 2 ^ 31 → g ^ q % p ≡ 1 → (key tweak : List ℕ)
    → (group_lock p q g).value_of ((group_lock p q g).carried_key key tweak) ≡ (group_lock p q g).carried_value ((group_lock p q g).value_of key) tweak
carrying p q g some most more few turn key tweak =
    let k = number_in key % q in
    let t = number_in tweak % q in
    let below : (k + t) % q < q = mod-lt (k + t) more in
    let under : g ^ k % p < p = mod-lt (g ^ k) some in
    let left : g ^ (number_in (as_value ((k + t) % q)) % q) % p ≡ g ^ (k + t) % p =
    ap (λ n. g ^ (n % q) % p) (number_of_value ((k + t) % q) (omega arith)) ∙ ap (λ n. g ^ n % p) (mod-mod (k + t) q) ∙ cut_exponent p q g turn (k + t) in
    let right : number_in (as_value (g ^ k % p)) % p * g ^ t % p ≡ g ^ (k + t) % p =
    ap (λ n. n % p * g ^ t % p) (number_of_value (g ^ k % p) (omega arith)) ∙ ap (λ n. n * g ^ t % p) (mod-mod (g ^ k) p) ∙ factor_mod (g ^ k) (g ^ t) p ∙ ap (λ n. n % p) (sym (pow-add g k t)) in
    ap as_value (left ∙ sym right)

-- So it holds of every group whose numbers are within their bounds.
pub group_carries : (p q g : ℕ) → (3 ≤ p) × (p < 2 ^ 31) → (2 ≤ q) × (q < 2 ^ 31) → g ^ q % p ≡ 1 → (key tweak : List ℕ) → length key ≡ 32 → length tweak ≡ 32
    → (group_lock p q g).value_of ((group_lock p q g).carried_key key tweak) ≡ (group_lock p q g).carried_value ((group_lock p q g).value_of key) tweak
group_carries p q g modulus order turn key tweak _ _ =
    let least = modulus.0 in
    let some = order.0 in
    carrying p q g (omega arith) modulus.1 (omega arith) order.1 turn key tweak
