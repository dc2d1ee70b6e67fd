-- Rows of numbers asset by asset: what a function fills them with, and what a test of each asset says of the amounts.
use Rattle.std.specs.Prelude.{◌≡◌, ℕ, zero, suc, ◌+◌, ◌<◌, ◌≤◌, Bool, true, false, ◌&&◌, List, [], ◌∷◌, length, nat_le, cond, min, ◌==◌, Some, None, Option, slice_index, refl}
use Rattle.std.proofs.Common.{sym, ap, ◌∙◌, ⊎_elim, subst, arith}
use Rattle.std.proofs.Math.Path.{fun_ext}
use Rattle.std.proofs.lemmas.Bool.{cases_lt}
use Rattle.std.proofs.lemmas.List.{get_or_past}
use Rattle.std.specs.Array.{IsFromFnResultFrom}
use Rattle.std.specs.Fn.{Called, Mut}
use Rattle.std.specs.Option.{option_map}
use Rattle.std.specs.List.{list_all, zip}
use Rattle.money.specs.Amounts.{Amount, row, contains, limited, units_from}
use Rattle.money.specs.declared.counts.Counts.{Counts}
use Rattle.money.proofs.Contains.{contains_decides}

-- Each number of a row that a function filled is its answer there, for a function that calls leave as it is.
pub filled_each : {F : Type 0} (g : Mut F (ℕ × Unit {0}) ℕ) (f : F) (P : ℕ → ℕ → Type 0) → ((i y : ℕ) (q : F) → Called g f (i, tt) y q → P i y × (q ≡ f)) → (ys : List ℕ) (n i : ℕ) → IsFromFnResultFrom g f ys i n → (k : ℕ) → i ≤ k → k < i + n → P k (slice_index ys k)
filled_each g f P one ys zero i made k low high = absurd (omega arith)
filled_each g f P one ys (suc n) i made k low high =
    let got = one i made.1 made.0 made.3 in
    ⊎_elim
    (λ (l : i < k). filled_each g f P one ys n (i + 1) (subst (λ q. IsFromFnResultFrom g q ys (i + 1) n) got.1 made.4) k (omega arith) (omega arith))
    (λ (l : k ≤ i). let same : i ≡ k = omega arith in subst (λ j. P j (slice_index ys j)) same (subst (P i) (sym (made.2.1 0)) got.0))
    (cases_lt i k)

-- The test of each asset, from the last one down, is the test from the first one up.
and_turned : (a b c : Bool) → (a && (b && c)) ≡ (b && (a && c))
and_turned true b c = refl
and_turned false true c = refl
and_turned false false c = refl

contains_front : (n : ℕ) (f g : Amount) → contains (suc n) f g ≡ (nat_le (g 0) (f 0) && contains n (λ k. f (suc k)) (λ k. g (suc k)))
unfolding contains
contains_front zero f g = refl
contains_front (suc n) f g = ap (λ b. nat_le (g (suc n)) (f (suc n)) && b) (contains_front n f g) ∙ and_turned (nat_le (g (suc n)) (f (suc n))) (nat_le (g 0) (f 0)) (contains n (λ k. f (suc k)) (λ k. g (suc k)))

-- No number of a row is past the limit.
pub all_limited : (n limit : ℕ) (xs : List ℕ) → length xs ≡ n → list_all (λ x. nat_le x limit) xs ≡ contains n (λ _. limit) (row xs)
unfolding contains
all_limited zero limit [] e = refl
all_limited (suc n) limit (x ∷ xs) e = ap (λ b. nat_le x limit && b) (all_limited n limit xs (omega arith)) ∙ sym (contains_front n (λ _. limit) (row (x ∷ xs)))
all_limited zero limit (x ∷ xs) e = absurd (omega arith)
all_limited (suc n) limit [] e = absurd (omega arith)

-- Each number of a row is at least that of the other.
pub all_covered : (n : ℕ) (xs ys : List ℕ) → length xs ≡ n → length ys ≡ n → list_all (λ p. nat_le p.1 p.0) (zip xs ys) ≡ contains n (row xs) (row ys)
unfolding contains
all_covered zero [] [] e d = refl
all_covered (suc n) (x ∷ xs) (y ∷ ys) e d = ap (λ b. nat_le y x && b) (all_covered n xs ys (omega arith) (omega arith)) ∙ sym (contains_front n (row (x ∷ xs)) (row (y ∷ ys)))
all_covered zero (x ∷ xs) ys e d = absurd (omega arith)
all_covered zero [] (y ∷ ys) e d = absurd (omega arith)
all_covered (suc n) [] ys e d = absurd (omega arith)
all_covered (suc n) (x ∷ xs) [] e d = absurd (omega arith)

-- A row that agrees with an amount in each of its assets means it, where the amount has nothing past them.
pub row_is : (n : ℕ) (xs : List ℕ) (h : Amount) → length xs ≡ n → ((k : ℕ) → k < n → slice_index xs k ≡ h k) → ((k : ℕ) → n ≤ k → h k ≡ 0) → row xs ≡ h
row_is n xs h long here past = fun_ext (λ k. ⊎_elim (here k) (λ (l : n ≤ k). get_or_past xs k 0 (omega arith) ∙ sym (past k l)) (cases_lt k n))

-- What a test of each asset says of a whole row.
pub row_within : (n limit : ℕ) (xs : List ℕ) → length xs ≡ n → contains n (λ _. limit) (row xs) ≡ true → (k : ℕ) → slice_index xs k ≤ limit
row_within n limit xs long e k = ⊎_elim (λ (l : k < n). (contains_decides n (λ _. limit) (row xs)).0 e k l) (λ (l : n ≤ k). let none = get_or_past xs k 0 (omega arith) in omega arith) (cases_lt k n)

-- Units from a balance are never more than it holds.
pub units_within : (units : ℕ) (balance : Amount) (k : ℕ) → units_from units balance k ≤ balance k
units_within units balance k = by (k == 0)
  where
    by : (b : Bool) → cond b (min units (balance k)) 0 ≤ balance k
    by true = omega arith
    by false = omega arith

-- A value of one asset is what its row holds at the front.
pub single_of : (r : Option (Counts 1)) → option_map (λ s. slice_index s.counts 0) r ≡ option_map (λ f. f 0) (option_map (λ c. row c.counts) r)
single_of (Some c) = refl
single_of None = refl

pub single_limited : (v : ℕ) → option_map (λ f. f 0) (limited 1 2100000000000000 (row (v ∷ []))) ≡ cond (nat_le v 2100000000000000) (Some v) None
unfolding contains
single_limited v = by (nat_le v 2100000000000000)
  where
    by : (b : Bool) → option_map (λ f. f 0) (cond (b && true) (Some (row (v ∷ []))) None) ≡ cond b (Some v) None
    by true = refl
    by false = refl
