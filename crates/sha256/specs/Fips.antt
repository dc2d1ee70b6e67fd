-- SHA-256 by FIPS 180-4: from the bytes of a message to the 32 bytes of its digest. A word is a number of 32 bits.
use Rattle.std.specs.Prelude.{ℕ, zero, suc, ◌+◌, ◌-◌, ◌*◌, ◌/◌, ◌%◌, ◌^◌, cond, List, [], ◌∷◌, ◌++◌, map, length, replicate, bit_and, bit_or, bit_xor, nat_lt, slice_index}
use Rattle.std.specs.List.{range_with_len, flat_map}
use Rattle.octets.specs.Numbers.{bytes_of, number_of}
use Rattle.octets.specs.Places.{part}

-- Words are added modulo 2^32.
abbrev pub add : ℕ → ℕ → ℕ
add x y = (x + y) % 2 ^ 32

-- ROTR: the word turned right by n places.
abbrev pub rotr : ℕ → ℕ → ℕ
rotr n x = bit_or (x / 2 ^ n) (x * 2 ^ (32 - n) % 2 ^ 32)

-- Ch(x, y, z) = (x and y) xor (not x and z)
abbrev pub ch : ℕ → ℕ → ℕ → ℕ
ch x y z = bit_xor (bit_and x y) (bit_and (2 ^ 32 - 1 - x) z)

-- Maj(x, y, z) = (x and y) xor (x and z) xor (y and z)
abbrev pub maj : ℕ → ℕ → ℕ → ℕ
maj x y z = bit_xor (bit_xor (bit_and x y) (bit_and x z)) (bit_and y z)

-- Σ0(x) = ROTR 2 xor ROTR 13 xor ROTR 22
abbrev pub big_sigma0 : ℕ → ℕ
big_sigma0 x = bit_xor (bit_xor (rotr 2 x) (rotr 13 x)) (rotr 22 x)

-- Σ1(x) = ROTR 6 xor ROTR 11 xor ROTR 25
abbrev pub big_sigma1 : ℕ → ℕ
big_sigma1 x = bit_xor (bit_xor (rotr 6 x) (rotr 11 x)) (rotr 25 x)

-- σ0(x) = ROTR 7 xor ROTR 18 xor SHR 3
abbrev pub small_sigma0 : ℕ → ℕ
small_sigma0 x = bit_xor (bit_xor (rotr 7 x) (rotr 18 x)) (x / 2 ^ 3)

-- σ1(x) = ROTR 17 xor ROTR 19 xor SHR 10
abbrev pub small_sigma1 : ℕ → ℕ
small_sigma1 x = bit_xor (bit_xor (rotr 17 x) (rotr 19 x)) (x / 2 ^ 10)

-- K: the first 32 bits of the fractions of the cube roots of the first 64 primes.
unfoldable pub constants : List ℕ
constants =
    0x428a_2f98 ∷ 0x7137_4491 ∷ 0xb5c0_fbcf ∷ 0xe9b5_dba5 ∷ 0x3956_c25b ∷ 0x59f1_11f1 ∷ 0x923f_82a4 ∷ 0xab1c_5ed5
    ∷ 0xd807_aa98 ∷ 0x1283_5b01 ∷ 0x2431_85be ∷ 0x550c_7dc3 ∷ 0x72be_5d74 ∷ 0x80de_b1fe ∷ 0x9bdc_06a7 ∷ 0xc19b_f174
    ∷ 0xe49b_69c1 ∷ 0xefbe_4786 ∷ 0x0fc1_9dc6 ∷ 0x240c_a1cc ∷ 0x2de9_2c6f ∷ 0x4a74_84aa ∷ 0x5cb0_a9dc ∷ 0x76f9_88da
    ∷ 0x983e_5152 ∷ 0xa831_c66d ∷ 0xb003_27c8 ∷ 0xbf59_7fc7 ∷ 0xc6e0_0bf3 ∷ 0xd5a7_9147 ∷ 0x06ca_6351 ∷ 0x1429_2967
    ∷ 0x27b7_0a85 ∷ 0x2e1b_2138 ∷ 0x4d2c_6dfc ∷ 0x5338_0d13 ∷ 0x650a_7354 ∷ 0x766a_0abb ∷ 0x81c2_c92e ∷ 0x9272_2c85
    ∷ 0xa2bf_e8a1 ∷ 0xa81a_664b ∷ 0xc24b_8b70 ∷ 0xc76c_51a3 ∷ 0xd192_e819 ∷ 0xd699_0624 ∷ 0xf40e_3585 ∷ 0x106a_a070
    ∷ 0x19a4_c116 ∷ 0x1e37_6c08 ∷ 0x2748_774c ∷ 0x34b0_bcb5 ∷ 0x391c_0cb3 ∷ 0x4ed8_aa4a ∷ 0x5b9c_ca4f ∷ 0x682e_6ff3
    ∷ 0x748f_82ee ∷ 0x78a5_636f ∷ 0x84c8_7814 ∷ 0x8cc7_0208 ∷ 0x90be_fffa ∷ 0xa450_6ceb ∷ 0xbef9_a3f7 ∷ 0xc671_78f2
    ∷ []

-- H(0): the first 32 bits of the fractions of the square roots of the first 8 primes.
unfoldable pub initial : List ℕ
initial =
    0x6a09_e667 ∷ 0xbb67_ae85 ∷ 0x3c6e_f372 ∷ 0xa54f_f53a ∷ 0x510e_527f ∷ 0x9b05_688c ∷ 0x1f83_d9ab ∷ 0x5be0_cd19 ∷ []

-- W at t from 16 on: σ1(W at t - 2) + W at t - 7 + σ0(W at t - 15) + W at t - 16
unfoldable pub mixed : List ℕ → ℕ → ℕ
mixed w t = add (add (add (small_sigma1 (slice_index w (t - 2))) (slice_index w (t - 7))) (small_sigma0 (slice_index w (t - 15)))) (slice_index w (t - 16))

-- W at t, after the words before it: the block's own word below 16, and mixed from there on.
unfoldable pub word : List ℕ → List ℕ → ℕ → ℕ
word block before t = cond (nat_lt t 16) (number_of (part (4 * t) 4 block)) (mixed before t)

-- The message schedule of a block: its first t words.
unfoldable pub schedule : List ℕ → ℕ → List ℕ
schedule block zero = []
schedule block (suc t) = schedule block t ++ (word block (schedule block t) t ∷ [])

-- T1 = h + Σ1(e) + Ch(e, f, g) + K at t + W at t, of the working variables a to h
unfoldable pub t1 : List ℕ → ℕ → ℕ → ℕ
t1 s k w = add (add (add (add (slice_index s 7) (big_sigma1 (slice_index s 4))) (ch (slice_index s 4) (slice_index s 5) (slice_index s 6))) k) w

-- T2 = Σ0(a) + Maj(a, b, c)
unfoldable pub t2 : List ℕ → ℕ
t2 s = add (big_sigma0 (slice_index s 0)) (maj (slice_index s 0) (slice_index s 1) (slice_index s 2))

-- A round: T1 + T2 comes in as a, d + T1 as e, and the others move down by one.
unfoldable pub round : List ℕ → ℕ → ℕ → List ℕ
round s k w = add (t1 s k w) (t2 s) ∷ slice_index s 0 ∷ slice_index s 1 ∷ slice_index s 2 ∷ add (slice_index s 3) (t1 s k w) ∷ slice_index s 4 ∷ slice_index s 5 ∷ slice_index s 6 ∷ []

-- The working variables after t rounds, each with its K and its W.
unfoldable pub rounds : List ℕ → List ℕ → ℕ → List ℕ
rounds s block zero = s
rounds s block (suc t) = round (rounds s block t) (slice_index constants t) (word block (schedule block t) t)

-- Hash values are added word by word.
unfoldable pub sums : List ℕ → List ℕ → List ℕ
sums s t = map (λ i. add (slice_index s i) (slice_index t i)) (range_with_len 0 8)

-- The hash value after a block: what 64 rounds make of the hash value is added to it.
unfoldable pub compressed : List ℕ → List ℕ → List ℕ
compressed s block = sums s (rounds s block 64)

-- H(n): the hash value after the first n blocks of 64 bytes.
unfoldable pub after : List ℕ → ℕ → List ℕ
after m zero = initial
after m (suc n) = compressed (after m n) (part (64 * n) 64 m)

-- Padding of n bytes: the bit 1, zeros up to 8 bytes short of a whole block, and the length in bits as a number of 64 bits.
unfoldable pub padding : ℕ → List ℕ
padding n = (128 ∷ replicate ((119 - n % 64) % 64) 0) ++ bytes_of 8 (8 * n % 2 ^ 64)

-- The hash value after all whole blocks.
unfoldable pub hash_value : List ℕ → List ℕ
hash_value m = after m (length m / 64)

-- SHA-256 of a message: the words of the hash value of the padded message, in bytes.
unfoldable pub hash : List ℕ → List ℕ
hash m = flat_map (bytes_of 4) (hash_value (m ++ padding (length m)))
