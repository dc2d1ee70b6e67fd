-- Lemmas on amounts in eight bytes an asset, from which the laws of the kinds follow: their length, reading them back, and writing back what was read.
use Rattle.std.specs.Prelude.{◌≡◌, ℕ, zero, suc, ◌+◌, ◌*◌, ◌^◌, ◌<◌, ◌≤◌, List, ◌++◌, length, take, drop, refl}
use Rattle.std.proofs.Common.{sym, ap, ◌∙◌, ⊎_elim, mul-suc, add-one, arith}
use Rattle.std.proofs.Math.Path.{fun_ext}
use Rattle.std.proofs.lemmas.List.{length-append, drop-append-le, take-append-le, drop_at, drop_all, length-drop, get_or_past}
use Rattle.std.proofs.lemmas.Bool.{cases_lt}
use Rattle.octets.specs.Numbers.{bytes_of, number_of, Bytes}
use Rattle.octets.specs.Places.{part}
use Rattle.octets.proofs.Laws.{number_back}
use Rattle.octets.proofs.Parts.{part_whole, part_join, part_back}
use Rattle.money.specs.Amounts.{Amount, row}
use Rattle.money.specs.Terms.{eight_each, eights, eights_limit}

pub eight_long : (n : ℕ) (f : Amount) → length (eight_each n f) ≡ 8 * n
eight_long zero f = refl
eight_long (suc n) f = length-append (eight_each n f) (bytes_of 8 (f n)) ∙ ap (λ l. l + 8) (eight_long n f) ∙ sym (mul-suc 8 n)

pub eight_more : (n : ℕ) (f : Amount) → eight_each (n + 1) f ≡ eight_each n f ++ bytes_of 8 (f n)
eight_more n f = ap (λ m. eight_each m f) (add-one n)

-- Bytes that hold so many assets stand for nothing past them.
pub eight_past : (n : ℕ) (bs : List ℕ) → length bs ≡ 8 * n → (k : ℕ) → n ≤ k → (eights n).stands bs k ≡ 0
eight_past n bs long k l = ap (λ rest. number_of (take 8 rest)) (drop_all (8 * k) bs (omega arith))

-- The bytes of an asset stand at its place.
eight_part : (n : ℕ) (f : Amount) (k : ℕ) → k < n → part (8 * k) 8 (eight_each n f) ≡ bytes_of 8 (f k)
eight_part zero f k h = absurd (omega arith)
eight_part (suc n) f k h = ⊎_elim (before (eight_part n f k)) here (cases_lt k n)
  where
    front : List ℕ
    front = eight_each n f

    last : List ℕ
    last = bytes_of 8 (f n)

    before : (k < n → part (8 * k) 8 front ≡ bytes_of 8 (f k)) → k < n → part (8 * k) 8 (front ++ last) ≡ bytes_of 8 (f k)
    before earlier l =
        let long = eight_long n f in
        let kept : 8 * k ≤ length front = omega arith in
        let enough : 8 ≤ length (drop (8 * k) front) = simp length-drop (omega arith) in
        ap (take 8) (drop-append-le (8 * k) front last kept) ∙ take-append-le 8 (drop (8 * k) front) last enough ∙ earlier l

    here : n ≤ k → part (8 * k) 8 (front ++ last) ≡ bytes_of 8 (f k)
    here l =
        let same : k ≡ n = omega arith in
        let long : length front ≡ 8 * k = eight_long n f ∙ ap (λ m. 8 * m) (sym same) in
        ap (take 8) (drop_at front last (8 * k) long) ∙ ap (λ m. bytes_of 8 (f m)) (sym same)

-- Reading reverses writing, for every amount whose assets fit eight bytes.
pub eight_back : (n : ℕ) (f : Amount) → ((k : ℕ) → f k < 256 ^ 8) → ((k : ℕ) → n ≤ k → f k ≡ 0) → (eights n).stands (eight_each n f) ≡ f
eight_back n f small past = fun_ext (λ k. ⊎_elim (inside k) (outside k) (cases_lt k n))
  where
    inside : (k : ℕ) → k < n → number_of (part (8 * k) 8 (eight_each n f)) ≡ f k
    inside k l = ap number_of (eight_part n f k l) ∙ number_back 8 (f k) (small k)

    outside : (k : ℕ) → n ≤ k → number_of (part (8 * k) 8 (eight_each n f)) ≡ f k
    outside k l = eight_past n (eight_each n f) (eight_long n f) k l ∙ sym (past k l)

-- Past its places a row means nothing.
pub row_past : (n : ℕ) (xs : List ℕ) → length xs ≡ n → (k : ℕ) → n ≤ k → row xs k ≡ 0
row_past n xs long k l = get_or_past xs k 0 (omega arith)

-- So what a row of numbers means is read back.
pub row_back : (n : ℕ) (xs : List ℕ) → length xs ≡ n → ((k : ℕ) → row xs k ≤ eights_limit) → (eights n).stands (eight_each n (row xs)) ≡ row xs
row_back n xs long most = eight_back n (row xs) (λ k. let fits = most k in omega arith) (row_past n xs long)

module _ (bs : List ℕ) (each : Bytes bs) where
  eight_front : (n : ℕ) → 8 * n ≤ length bs → eight_each n ((eights n).stands bs) ≡ part 0 (8 * n) bs
  eight_front zero h = refl
  eight_front (suc n) h =
      let more : 8 * n + 8 ≡ 8 * suc n = sym (mul-suc 8 n) in
      (λ i. eight_front n (omega arith) i ++ part_back bs each (8 * n) 8 (omega arith) i) ∙ part_join bs 0 (8 * n) (8 * n) 8 (omega arith) ∙ ap (λ m. part 0 m bs) more

  -- What is read, written again, gives the bytes that were read.
  pub eight_again : (n : ℕ) → length bs ≡ 8 * n → eight_each n ((eights n).stands bs) ≡ bs
  eight_again n e = eight_front n (omega arith) ∙ part_whole bs (8 * n) e
