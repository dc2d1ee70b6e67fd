-- What a hasher holds after a piece, and the padding as two pieces.
use Rattle.std.proofs.Common.{◌≡◌, ℕ, zero, suc, ◌+◌, ◌-◌, ◌*◌, ◌/◌, ◌%◌, ◌^◌, ◌<◌, ◌≤◌, List, [], ◌∷◌, ◌++◌, length, take, drop, replicate, sym, refl, ap, ◌∙◌, add_comm, add-one, arith}
use Rattle.std.proofs.lemmas.List.{append_assoc, length-append, length-drop, take-append-le, drop-append-le, take_all, drop_all, take-replicate}
use Rattle.std.proofs.lemmas.Slice.{take-put_mid}
use borrow.Rule.Slice.PartMut.{put_mid}
use Rattle.octets.specs.Numbers.{bytes_of}
use Rattle.octets.specs.Places.{part}
use Rattle.sha256.specs.Fips.{compressed, after, padding, hash_value}
use Rattle.sha256.specs.Stream.{Held}

-- A part of the front is not altered by what comes behind.
part_front : (m p : List ℕ) (at n : ℕ) → at + n ≤ length m → part at n (m ++ p) ≡ part at n m
part_front m p at n h =
    ap (take n) (drop-append-le at m p (omega arith)) ∙ take-append-le n (drop at m) p (simp length-drop (omega arith))

after_front : (m p : List ℕ) (n : ℕ) → 64 * n ≤ length m → after (m ++ p) n ≡ after m n
unfolding after
after_front m p zero h = refl
after_front m p (suc n) h = cc (after_front m p n (omega arith), part_front m p (64 * n) 64 (omega arith))

after_more : (m : List ℕ) (n : ℕ) → after m (n + 1) ≡ compressed (after m n) (part (64 * n) 64 m)
unfolding after
after_more m n = rw (add-one n)

-- A hasher that holds m, and a piece of so many bytes written into its block behind the rest of m.
module _ (state block m : List ℕ) (total : ℕ) (held : Held state block total m) (piece : List ℕ) (count k : ℕ) (long : length piece ≡ count) (room : length m % 64 ≤ length block) where
  place : total % 64 ≡ length m % 64
  place = omega (arith, held.count)

  counted : (total + count) % 2 ^ 64 ≡ length (m ++ piece) % 2 ^ 64
  counted = simp length-append (omega (arith, held.count))

  behind : take (length m % 64 + count) (put_mid (total % 64) k block piece) ≡ drop (64 * (length m / 64)) (m ++ piece)
  behind =
      take-put_mid (total % 64) k block piece (length m % 64 + count) (omega (arith, place)) (omega (arith, place))
      ∙ ap (λ n. take n block ++ piece) place
      ∙ ap (λ t. t ++ piece) held.rest
      ∙ sym (drop-append-le (64 * (length m / 64)) m piece (omega arith))

  -- Where that leaves room, the hash value stays.
  pub held_part : total % 64 + count < 64 → Held state (put_mid (total % 64) k block piece) ((total + count) % 2 ^ 64) (m ++ piece)
  unfolding hash_value
  held_part h =
      let blocks : length (m ++ piece) / 64 ≡ length m / 64 = simp length-append (omega (arith, place)) in
      let rest : length (m ++ piece) % 64 ≡ length m % 64 + count = simp length-append (omega (arith, place)) in
      record { value = cc (held.value, after_front m piece (length m / 64) (omega arith)); rest = cc behind; count = counted }

  -- Where that fills the block, the hash value goes on by it.
  pub held_whole : total % 64 + count ≡ 64 → length (put_mid (total % 64) k block piece) ≡ 64 → Held (compressed state (put_mid (total % 64) k block piece)) (put_mid (total % 64) k block piece) ((total + count) % 2 ^ 64) (m ++ piece)
  unfolding hash_value
  held_whole h full =
      let next : List ℕ = put_mid (total % 64) k block piece in
      let at : ℕ = 64 * (length m / 64) in
      let blocks : length (m ++ piece) / 64 ≡ length m / 64 + 1 = simp length-append (omega (arith, place)) in
      let rest : length (m ++ piece) % 64 ≡ 0 = simp length-append (omega (arith, place)) in
      let end : length m % 64 + count ≡ 64 = omega (arith, place) in
      let all : take 64 next ≡ next = take_all 64 next (omega arith) in
      let whole : next ≡ drop at (m ++ piece) = cc behind in
      let block : next ≡ part at 64 (m ++ piece) = cc in
      let none : drop (64 * (length (m ++ piece) / 64)) (m ++ piece) ≡ [] = drop_all (64 * (length (m ++ piece) / 64)) (m ++ piece) (omega arith) in
      record { value = cc (held.value, after_front m piece (length m / 64) (omega arith), after_more (m ++ piece) (length m / 64)); rest = cc; count = counted }

-- The mark and the zeros behind it, as the front of a row.
pub mark_front : (k n : ℕ) → k ≤ n → take {A = ℕ} (1 + k) (128 ∷ replicate n 0) ≡ 128 ∷ replicate k 0
mark_front k n h = rw (add_comm 1 k, add-one k) (ap (λ zs. 128 ∷ zs) (take-replicate k n 0 h))

-- A message with the mark and then its length in bits is the padded message.
pub padded : (m : List ℕ) (total : ℕ) → total ≡ length m % 2 ^ 64 → (m ++ (128 ∷ replicate ((119 - total % 64) % 64) 0)) ++ bytes_of 8 (total * 8 % 2 ^ 64) ≡ m ++ padding (length m)
unfolding padding
padded m total e =
    let place : total % 64 ≡ length m % 64 = omega arith in
    let bits : total * 8 % 2 ^ 64 ≡ 8 * length m % 2 ^ 64 = omega arith in
    append_assoc m (128 ∷ replicate ((119 - total % 64) % 64) 0) (bytes_of 8 (total * 8 % 2 ^ 64))
    ∙ ap (λ t. m ++ ((128 ∷ replicate ((119 - t) % 64) 0) ++ bytes_of 8 (total * 8 % 2 ^ 64))) place
    ∙ ap (λ t. m ++ ((128 ∷ replicate ((119 - length m % 64) % 64) 0) ++ bytes_of 8 t)) bits
