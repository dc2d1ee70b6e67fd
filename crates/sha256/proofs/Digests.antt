-- A digest is of 32 bytes.
use Rattle.std.proofs.Common.{◌≡◌, ℕ, zero, suc, ◌*◌, ◌/◌, List, [], ◌∷◌, ◌++◌, length, refl, ap, ◌∙◌, arith}
use Rattle.std.specs.List.{flat_map}
use Rattle.octets.specs.Numbers.{bytes_of}
use Rattle.sha256.specs.Fips.{initial, sums, compressed, after, padding, hash_value, hash}

words_long : (ws : List ℕ) → length (flat_map (bytes_of 4) ws) ≡ 4 * length ws
words_long [] = refl
words_long (w ∷ ws) = let rest : length (flat_map (bytes_of 4) ws) ≡ 4 * length ws = words_long ws in omega arith

after_long : (m : List ℕ) (n : ℕ) → length (after m n) ≡ 8
unfolding after initial compressed sums
after_long m zero = refl
after_long m (suc n) = refl

pub hash_long : (m : List ℕ) → length (hash m) ≡ 32
unfolding hash hash_value
hash_long m =
    let p : List ℕ = m ++ padding (length m) in
    words_long (after p (length p / 64)) ∙ ap (λ n. 4 * n) (after_long p (length p / 64))
