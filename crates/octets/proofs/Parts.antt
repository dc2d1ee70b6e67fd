-- Parts of a row of bytes byte by byte, and writing one piece behind another.
use Rattle.std.proofs.Common.{◌≡◌, ℕ, zero, suc, ◌+◌, ◌<◌, ◌≤◌, List, [], ◌∷◌, ◌++◌, length, get_or, take, drop, sym, refl, ap, ◌∙◌, ⊎_elim, add-zero, zero-add, arith}
use Rattle.std.proofs.lemmas.List.{drop_more, take_at, drop_at, take_all, take-take, drop-take, append_assoc, length-append, length-take, length-drop, length-take-le, drop-drop, take-append-drop, get_or-take, get_or-drop, get_or_past}
use Rattle.std.proofs.lemmas.Bool.{cases_lt}
use Rattle.octets.specs.Numbers.{bytes_of, number_of, Bytes}
use Rattle.octets.specs.Places.{part, over}
use Rattle.octets.proofs.Laws.{bytes_back}

-- The so many bytes at a place and a step from it, one by one.
abbrev pub bytes_at : List ℕ → ℕ → ℕ → ℕ → List ℕ
bytes_at bs at step zero = []
bytes_at bs at step (suc n) = get_or bs (at + step) 0 ∷ bytes_at bs at (suc step) n

part_from : (bs : List ℕ) (at step n : ℕ) → at + step + n ≤ length bs → take n (drop (at + step) bs) ≡ bytes_at bs at step n
part_from bs at step zero h = refl
part_from bs at step (suc n) h =
    ap (take (suc n)) (drop_more bs (at + step) 0 (omega arith)) ∙ ap (λ k. get_or bs (at + step) 0 ∷ take n (drop k bs)) (omega arith) ∙ ap (λ t. get_or bs (at + step) 0 ∷ t) (part_from bs at (suc step) n (omega arith))

-- A part is its bytes one by one.
pub part_is : (bs : List ℕ) (at n : ℕ) → at + n ≤ length bs → part at n bs ≡ bytes_at bs at 0 n
part_is bs at n h = ap (λ k. take n (drop k bs)) (sym (add-zero at)) ∙ part_from bs at 0 n (omega arith)

-- The whole row is a part of itself.
pub part_whole : (bs : List ℕ) (n : ℕ) → length bs ≡ n → part 0 n bs ≡ bs
part_whole bs n e = take_all n bs (omega arith)

-- A part and the one right behind it are one part.
pub part_join : (bs : List ℕ) (at n next m : ℕ) → at + n ≡ next → part at n bs ++ part next m bs ≡ part at (n + m) bs
part_join bs at n next m e =
    let rest = drop at bs in
    ap (λ t. take n rest ++ take m t) (ap (λ k. drop k bs) (sym e) ∙ sym (drop-drop n at bs))
    ∙ (λ i. sym (take-take n (n + m) rest (omega arith)) i ++ sym (drop-take n m rest) i)
    ∙ take-append-drop n (take (n + m) rest)

pub part_long : (bs : List ℕ) (at n : ℕ) → at + n ≤ length bs → length (part at n bs) ≡ n
part_long bs at n h = simp (length-take, length-drop) (omega arith)

-- A part of bytes is bytes.
pub part_bytes : (bs : List ℕ) → Bytes bs → (at n : ℕ) → Bytes (part at n bs)
part_bytes bs each at n i =
    ⊎_elim
    (λ (l : i < n). let e = get_or-take n (drop at bs) i 0 l ∙ get_or-drop at bs i 0 in let b = each (at + i) in omega arith)
    (λ (l : n ≤ i). let none = get_or_past (part at n bs) i 0 (simp (length-take, length-drop) (omega arith)) in omega arith)
    (cases_lt i n)

-- The number of a part has the bytes of the part.
pub part_back : (bs : List ℕ) → Bytes bs → (at n : ℕ) → at + n ≤ length bs → bytes_of n (number_of (part at n bs)) ≡ part at n bs
part_back bs each at n h =
    ap (λ l. bytes_of l (number_of (part at n bs))) (sym (part_long bs at n h)) ∙ bytes_back (part at n bs) (part_bytes bs each at n)

module _ (bs : List ℕ) where
  -- A piece written right behind another is one piece.
  pub over_over : (p q : List ℕ) (at next : ℕ) → at ≤ length bs → at + length p ≡ next → over (over bs at p) next q ≡ over bs at (p ++ q)
  unfolding over
  over_over p q at next h e =
      let front : length (take at bs ++ p) ≡ next = length-append (take at bs) p ∙ ap (λ n. n + length p) (length-take-le at bs h) ∙ e in
      let rest = drop (at + length p) bs in
      let whole : take at bs ++ (p ++ rest) ≡ (take at bs ++ p) ++ rest = sym (append_assoc (take at bs) p rest) in
      let behind : drop (next + length q) ((take at bs ++ p) ++ rest) ≡ drop (at + length (p ++ q)) bs =
      sym (drop-drop (length q) next ((take at bs ++ p) ++ rest)) ∙ ap (drop (length q)) (drop_at (take at bs ++ p) rest next front) ∙ drop-drop (length q) (at + length p) bs
      ∙ ap (λ n. drop n bs) (simp length-append (omega arith)) in
      ap (λ t. take next t ++ (q ++ drop (next + length q) t)) whole
      ∙ ap (λ t. t ++ (q ++ drop (next + length q) ((take at bs ++ p) ++ rest))) (take_at (take at bs ++ p) rest next front)
      ∙ ap (λ t. (take at bs ++ p) ++ (q ++ t)) behind
      ∙ simp append_assoc

  -- A piece written behind what stands at the front.
  pub over_next : (p q : List ℕ) (next : ℕ) {s t : List ℕ} → length p ≡ next → s ≡ over bs 0 p → t ≡ over s next q → t ≡ over bs 0 (p ++ q)
  over_next p q next l e f = f ∙ ap (λ x. over x next q) e ∙ over_over p q 0 next (omega arith) (zero-add (length p) ∙ l)

  -- Writing no byte changes nothing.
  pub over_none : (at : ℕ) → over bs at [] ≡ bs
  unfolding over
  over_none at = ap (λ n. take at bs ++ drop n bs) (add-zero at) ∙ take-append-drop at bs

  -- What is written at the front stands there, and the rest is as it was.
  pub over_front : (p : List ℕ) → over bs 0 p ≡ p ++ drop (length p) bs
  unfolding over
  over_front p = ap (λ n. p ++ drop n bs) (zero-add (length p))
