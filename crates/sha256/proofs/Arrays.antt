-- Arrays whose elements came from calls of a function that a call does not alter.
use Rattle.std.proofs.Common.{◌≡◌, ℕ, zero, suc, ◌+◌, ◌<◌, List, get_or, length, map, subst, sym, ap, ◌∙◌, arith}
use Rattle.std.proofs.lemmas.List.{same_lists, length-map, get_or-map}
use Rattle.std.proofs.lemmas.List.FromFn.{length-map-range_with_len, get_or-map-range_with_len}
use Rattle.std.specs.Array.{IsFromFnResult, IsFromFnResultFrom, IsMapOf, MapsFrom}
use Rattle.std.specs.Fn.{Called, Mut}
use Rattle.std.specs.List.{range_with_len}

module _ {F B : Type 0} {g : Mut F (ℕ × Unit {0}) B} {f : F} (h : ℕ → B) (same : (i : ℕ) (y : B) (q : F) → Called g f (i, tt) y q → (q ≡ f) × (y ≡ h i)) where
  from_fn_at : (ys : List B) (d : B) (n i k j : ℕ) → IsFromFnResultFrom g f ys i n → k < n → i + k ≡ j → get_or ys j d ≡ h j
  from_fn_at ys d zero i k j calls lt e = absurd (omega arith)
  from_fn_at ys d (suc n) i zero j calls lt e =
      let at : i ≡ j = omega arith in
      let P : ℕ → Type 0 = λ j. get_or ys j d ≡ h j in
      subst P at (calls.2.1 d ∙ (same i calls.1 calls.0 calls.3).1)
  from_fn_at ys d (suc n) i (suc k) j calls lt e =
      let P : F → Type 0 = λ q. IsFromFnResultFrom g q ys (i + 1) n in
      from_fn_at ys d n (i + 1) k j (subst P (same i calls.1 calls.0 calls.3).0 calls.4) (omega arith) (omega arith)

  pub from_fn_list : {ys : List B} {n : ℕ} → IsFromFnResult g f ys n → ys ≡ map h (range_with_len 0 n)
  from_fn_list {ys} {n} made =
      same_lists ys (map h (range_with_len 0 n)) (made.long ∙ sym (length-map-range_with_len h 0 n))
      (λ k d lt. let below : k < n = omega arith in from_fn_at ys d n 0 k k made.each below (omega arith) ∙ sym (get_or-map-range_with_len h 0 n k k d below (omega arith)))

module _ {F A B : Type 0} {g : Mut F (A × Unit {0}) B} {f : F} (h : A → B) (same : (x : A) (y : B) (q : F) → Called g f (x, tt) y q → (q ≡ f) × (y ≡ h x)) where
  map_at : (xs : List A) (ys : List B) (e : A) (d : B) (n i k j : ℕ) → MapsFrom g f xs ys i n → k < n → i + k ≡ j → get_or ys j d ≡ h (get_or xs j e)
  map_at xs ys e d zero i k j calls lt is = absurd (omega arith)
  map_at xs ys e d (suc n) i zero j calls lt is =
      let at : i ≡ j = omega arith in
      let P : ℕ → Type 0 = λ j. get_or ys j d ≡ h (get_or xs j e) in
      subst P at (calls.4.1 d ∙ (same calls.1 calls.2 calls.0 calls.5).1 ∙ ap h (sym (calls.3.1 e)))
  map_at xs ys e d (suc n) i (suc k) j calls lt is =
      let P : F → Type 0 = λ q. MapsFrom g q xs ys (i + 1) n in
      map_at xs ys e d n (i + 1) k j (subst P (same calls.1 calls.2 calls.0 calls.5).0 calls.6) (omega arith) (omega arith)

  pub map_list : {xs : List A} {ys : List B} {n : ℕ} (e : A) → length xs ≡ n → IsMapOf g f xs ys n → ys ≡ map h xs
  map_list {xs} {ys} {n} e long made =
      same_lists ys (map h xs) (made.long ∙ sym long ∙ sym (length-map xs h))
      (λ k d lt. let below : k < length xs = omega arith in map_at xs ys e d n 0 k k made.each (omega arith) (omega arith) ∙ sym (get_or-map h xs k e d below))
