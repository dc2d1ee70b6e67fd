-- Every secret that was taken comes back: what each place holds, what the fit test said of it, and which place answers.
use Rattle.std.proofs.Common.{◌≡◌, ℕ, zero, suc, ◌+◌, ◌-◌, ◌*◌, ◌/◌, ◌%◌, ◌^◌, ◌<◌, ◌≤◌, Bool, true, false, cond, ◌&&◌, eqb, ◌⊎◌, List, [], ◌∷◌, length, get_or, set, replicate, Some, None, Option, sym, refl, ap, ◌∙◌, subst, inl, inr, ⊎_elim, add-zero, mod-lt, mul_assoc, mul_comm, add-mul, one-mul, pow-suc, zero-add, zero-mul, mul-one, div-mul-le_self, div-one, arith}
use Rattle.std.proofs.lemmas.Nat.{leading_top, div-add-mod', pow_pos, pow_below, shr_high}
use Rattle.std.proofs.lemmas.Slice.Eq.{bytes_eq-Decides}
use Rattle.std.proofs.lemmas.List.{get_or-set_same, get_or-set_other, get_or_past, get_or-replicate, length-set, length-replicate}
use Rattle.std.proofs.lemmas.Bool.{cases_lt, cases_eq, and_parts, eq-eqb, eqb-true}
use Rattle.std.specs.Str.{bytes_eq}
use lib.Count.{trailing_le, trailing_of_zero}
use native.Mathlib.Nat.{pow-succ', div-eq_of_lt, div-div-eq-div-mul}
use Rattle.secrets.specs.declared.known.Known.{Known}
use Rattle.secrets.specs.Derivation.{derived, index_of, secret_of}
use Rattle.secrets.specs.Store.{Places, place_of, cleared, agrees, agrees_below, fits, kept, answered, first_of, older_from, older, Taken, none, one_more, ComesBack, HonestFits}
use Rattle.secrets.proofs.Derivations.{by_way, derived_unset, unset}
use Rattle.secrets.proofs.Zeros.{multiple, room, lowest, shape, all_zeros, close}

-- An index and one of the same place that is less than two of its steps above it are one.
same_place : (n k : ℕ) → n ≤ k → k < 2 ^ 48 → place_of k ≡ place_of n → k < n + 2 * 2 ^ place_of n → k ≡ n
same_place n k low small same near = ⊎_elim inside full (cases_lt (place_of n) 48)
  where
    inside : place_of n < 48 → k ≡ n
    inside l =
        let a = shape 48 n l in
        let b = shape 48 k (omega arith) in
        let P : ℕ → Type 0 = λ c. k ≡ 2 * (b.0 * 2 ^ c) + 2 ^ c in
        let b' : k ≡ 2 * (b.0 * 2 ^ place_of n) + 2 ^ place_of n = subst P same b.1 in
        let one = close (place_of n) a.0 b.0 (omega (arith, a.1)) (omega (arith, a.1)) in
        omega (arith, a.1)

    full : 48 ≤ place_of n → k ≡ n
    full l =
        let top = trailing_le 48 n in
        let z = all_zeros 48 n (omega arith) (omega arith) in
        let y = all_zeros 48 k (omega arith) small in
        omega arith

-- Above an index, each lower place has an index at the distance of its own step.
above_place : (n c : ℕ) → c < place_of n → place_of (n + 2 ^ c) ≡ c
above_place n c h =
    let top = trailing_le 48 n in
    let m = multiple 48 n c h in
    ap (λ k. place_of (k + 2 ^ c)) m.1 ∙ lowest 48 c m.0 (omega arith)

-- An index above one with more than c trailing zeros, by 2^c and less than 2^c more, is cleared to the first of these.
cleared_step : (i c r k : ℕ) → c < place_of i → k ≡ i + 2 ^ c + r → r < 2 ^ c → cleared k c ≡ i + 2 ^ c
cleared_step i c r k h e below =
    let m = multiple 48 i c h in
    let q = 2 * m.0 + 1 in
    let product : q * 2 ^ c ≡ i + 2 ^ c = add-mul (2 * m.0) 1 (2 ^ c) ∙ (λ j. mul_assoc 2 m.0 (2 ^ c) j + one-mul (2 ^ c) j) ∙ ap (λ n. n + 2 ^ c) (sym m.1) in
    let split : k ≡ q * 2 ^ c + r = e ∙ ap (λ n. n + r) (sym product) in
    ap (λ n. n * 2 ^ c) (ap (λ n. n / 2 ^ c) split ∙ shr_high q c r below) ∙ product

agrees_at : (secret : List ℕ) (b : ℕ) (places : Places) (n c : ℕ) → c < n → agrees_below secret b places n ≡ true → agrees secret b (get_or places c None) ≡ true
agrees_at secret b places zero c h e = absurd (omega arith)
agrees_at secret b places (suc n) c h e =
    let both = and_parts (agrees secret b (get_or places n None)) (agrees_below secret b places n) e in
    ⊎_elim (λ (l : c < n). agrees_at secret b places n c l both.1) (λ (l : n ≤ c). let same : c ≡ n = omega arith in ap (λ m. agrees secret b (get_or places m None)) same ∙ both.0) (cases_lt c n)

module _ (s : ℕ → List ℕ) where
  -- The secret of an index, and what its place holds of it.
  abbrev at : ℕ → List ℕ
  at k = s (index_of k)

  abbrev known : ℕ → Known
  known k = record { index = k; secret = at k }

  long : {count : ℕ} {places : Places} → Taken s count places → length places ≡ 49
  unfolding kept
  long none = refl
  long (one_more count places run few fit) = length-set places (place_of (index_of count)) _ ∙ long run

  -- The newest place holds the newest secret.
  newest : (count : ℕ) → count < 2 ^ 48 → ◌≡◌ {A = Known} (record { index = index_of count; secret = s count }) (known (index_of count))
  newest count few = let back : count ≡ index_of (index_of count) = omega arith in ap (λ m. record { index = index_of count; secret = s m }) back

  -- A place holds an index until a lower index of the same place is taken.
  holds : {count : ℕ} {places : Places} → Taken s count places → (k : ℕ) → 2 ^ 48 - count ≤ k → k < 2 ^ 48 → k < 2 ^ 48 - count + 2 * 2 ^ place_of k → get_or places (place_of k) None ≡ Some (known k)
  unfolding kept
  holds none k low small near = absurd (omega arith)
  holds (one_more count places run few fit) k low small near = ⊎_elim here (λ other. elsewhere other (λ l. holds run k l small)) (cases_eq (place_of k) (place_of (index_of count)))
    where
      here : place_of k ≡ place_of (index_of count) → get_or (set places (place_of (index_of count)) (Some (record { index = index_of count; secret = s count }))) (place_of k) None ≡ Some (known k)
      here same =
          let n = index_of count in
          let top = trailing_le 48 n in
          let many = long run in
          let near' : k < n + 2 * 2 ^ place_of n = (let P : ℕ → Type 0 = λ c. k < n + 2 * 2 ^ c in subst P same (omega arith)) in
          let one : k ≡ n = same_place n k (omega arith) small same near' in
          ap (λ c. get_or (set places (place_of n) (Some (record { index = n; secret = s count }))) c None) same
          ∙ get_or-set_same places (place_of n) _ None (omega arith)
          ∙ ap Some (newest count few ∙ ap known (sym one))

      elsewhere : (place_of k ≡ place_of (index_of count) → ⊥)
          → (2 ^ 48 - count ≤ k → k < 2 ^ 48 - count + 2 * 2 ^ place_of k → get_or places (place_of k) None ≡ Some (known k))
          → get_or (set places (place_of (index_of count)) (Some (record { index = index_of count; secret = s count }))) (place_of k) None ≡ Some (known k)
      elsewhere other earlier =
          let apart : k ≡ index_of count → ⊥ = λ e. other (ap place_of e) in
          let later : 2 ^ 48 - count ≤ k = ⊎_elim (λ e. absurd (apart e)) (λ ne. ⊎_elim (λ (l : k < 2 ^ 48 - count). absurd (ne (omega arith))) (λ (l : 2 ^ 48 - count ≤ k). l) (cases_lt k (2 ^ 48 - count))) (cases_eq k (index_of count)) in
          get_or-set_other places (place_of (index_of count)) (place_of k) _ None other ∙ earlier later (omega arith)

  -- What the fit test said: the lower places derive from an index of a higher one.
  fitted : {count : ℕ} {places : Places} → Taken s count places → (i : ℕ) → 2 ^ 48 - count ≤ i → i < 2 ^ 48 → (c : ℕ) → c < place_of i → derived (at i) (i + 2 ^ c) (place_of i) ≡ at (i + 2 ^ c)
  unfolding fits
  fitted none i low small c h = absurd (omega arith)
  fitted (one_more count places run few fit) i low small c h = ⊎_elim here (λ other. fitted run i (higher other) small c h) (cases_eq i (index_of count))
    where
      higher : (i ≡ index_of count → ⊥) → 2 ^ 48 - count ≤ i
      higher other = ⊎_elim (λ (l : i < 2 ^ 48 - count). absurd (other (omega arith))) (λ (l : 2 ^ 48 - count ≤ i). l) (cases_lt i (2 ^ 48 - count))

      here : i ≡ index_of count → derived (at i) (i + 2 ^ c) (place_of i) ≡ at (i + 2 ^ c)
      here e =
          let n = index_of count in
          let b = place_of n in
          let c<b : c < b = (let P : ℕ → Type 0 = λ m. c < place_of m in subst P e h) in
          let k = n + 2 ^ c in
          let pos = pow_pos c in
          let place : place_of k ≡ c = above_place n c c<b in
          let small' : k < 2 ^ 48 = room 48 n c (omega arith) c<b in
          let held : get_or places c None ≡ Some (known k) =
          ap (λ m. get_or places m None) (sym place) ∙ holds run k (omega arith) small' (let P : ℕ → Type 0 = λ m. k < 2 ^ 48 - count + 2 * 2 ^ m in subst P (sym place) (omega arith)) in
          let agree : bytes_eq (derived (s count) k b) (at k) ≡ true = ap (agrees (s count) b) (sym held) ∙ agrees_at (s count) b places b c c<b fit in
          let newest_is : at n ≡ s count = (let back : index_of n ≡ count = omega arith in ap s back) in
          let P : ℕ → Type 0 = λ m. derived (at m) (m + 2 ^ c) (place_of m) ≡ at (m + 2 ^ c) in
          subst P (sym e) (ap (λ v. derived v k b) newest_is ∙ (bytes_eq-Decides (derived (s count) k b) (at k)).0 agree)

  module _ {count : ℕ} {places : Places} (run : Taken s count places) where
    -- All indices below the step of a place derive from the index of the place.
    derives : (fuel i r : ℕ) → place_of i < fuel → 2 ^ 48 - count ≤ i → r < 2 ^ place_of i → i + r < 2 ^ 48 → derived (at i) (i + r) (place_of i) ≡ at (i + r)
    derives zero i r enough low below small = absurd (omega arith)
    derives (suc fuel) i r enough low below small = ⊎_elim at_itself (λ (some : 0 < r). by_step some (λ i' r'. derives fuel i' r')) (cases_zero r)
      where
        cases_zero : (n : ℕ) → (n ≡ 0) ⊎ (0 < n)
        cases_zero zero = inl refl
        cases_zero (suc n) = inr (omega arith)

        at_itself : r ≡ 0 → derived (at i) (i + r) (place_of i) ≡ at (i + r)
        at_itself e =
            let same : i + r ≡ i = omega arith in
            ap (λ k. derived (at i) k (place_of i)) same ∙ derived_unset (at i) i (place_of i) (λ c h. let m = multiple 48 i c h in unset i c m.0 m.1) ∙ ap at (sym same)

        by_step : 0 < r
            → ((i' r' : ℕ) → place_of i' < fuel → 2 ^ 48 - count ≤ i' → r' < 2 ^ place_of i' → i' + r' < 2 ^ 48 → derived (at i') (i' + r') (place_of i') ≡ at (i' + r'))
            → derived (at i) (i + r) (place_of i) ≡ at (i + r)
        by_step some earlier =
            let b = place_of i in
            let t = leading_top b r some below in
            let c = t.0 in
            let c<b : c < b = omega (arith, t.1) in
            let r' = r - 2 ^ c in
            let i' = i + 2 ^ c in
            let whole : i' + r' ≡ i + r = omega (arith, t.2) in
            let place : place_of i' ≡ c = above_place i c c<b in
            let less : r' < 2 ^ c = omega (arith, t.2, t.3, pow-succ' 2 c) in
            let way : cleared (i + r) c ≡ i' = cleared_step i c r' (i + r) c<b (omega (arith, t.2)) less in
            let step = fitted run i low (omega arith) c c<b in
            let rest : derived (at i') (i' + r') (place_of i') ≡ at (i' + r') =
            earlier i' r' (omega arith) (omega arith) (let P : ℕ → Type 0 = λ m. r' < 2 ^ m in subst P (sym place) less) (omega (arith, t.2)) in
            by_way (at i) (i + r) c b (omega arith)
            ∙ ap (λ k. derived (derived (at i) k b) (i + r) c) way
            ∙ ap (λ v. derived v (i + r) c) step
            ∙ (λ j. derived (at i') (sym whole j) (sym place j))
            ∙ rest
            ∙ ap at whole

  -- What stands at a place was taken, and belongs there.
  record Stored (count b : ℕ) (m : Known) : Type 0 where
    place : place_of m.index ≡ b
    secret_is : m.secret ≡ at m.index
    low : 2 ^ 48 - count ≤ m.index
    small : m.index < 2 ^ 48

  abbrev last_known : ℕ → Known
  last_known count = record { index = index_of count; secret = s count }

  nowhere : (n b : ℕ) → get_or (replicate {A = Option Known} n None) b None ≡ None
  nowhere n b =
      ⊎_elim (λ (l : b < n). get_or-replicate n b None None l) (λ (l : n ≤ b). get_or_past (replicate n None) b None (simp length-replicate (omega arith))) (cases_lt b n)

  stored : {count : ℕ} {places : Places} → Taken s count places → (b : ℕ) (m : Known) → get_or places b None ≡ Some m → Stored count b m
  unfolding kept
  stored none b m e = absurd (let n = nowhere 49 b in let z : ◌≡◌ {A = ℕ} 0 1 = cc in omega arith)
  stored (one_more count places run few fit) b m e = ⊎_elim here (λ other. elsewhere other (stored run b m)) (cases_eq b (place_of (index_of count)))
    where
      here : b ≡ place_of (index_of count) → Stored (suc count) b m
      here same =
          let n = index_of count in
          let top = trailing_le 48 n in
          let many = long run in
          let held : get_or (set places (place_of n) (Some (last_known count))) b None ≡ Some (last_known count) =
          ap (λ c. get_or (set places (place_of n) (Some (last_known count))) c None) same ∙ get_or-set_same places (place_of n) (Some (last_known count)) None (omega arith) in
          let is : (last_known count) ≡ m = cc in
          let back : count ≡ index_of n = omega arith in
          let P : Known → Type 0 = λ x. Stored (suc count) b x in
          subst P is (record { place = sym same; secret_is = ap s back; low = omega arith; small = omega arith })

      elsewhere : (b ≡ place_of (index_of count) → ⊥) → (get_or places b None ≡ Some m → Stored count b m) → Stored (suc count) b m
      elsewhere other earlier =
          let old = earlier (sym (get_or-set_other places (place_of (index_of count)) b _ None other) ∙ e) in
          record { place = old.place; secret_is = old.secret_is; low = (let l = old.low in omega arith); small = old.small }

  -- A place that answers for an index gives its secret.
  answers : {count : ℕ} {places : Places} → Taken s count places → (k : ℕ) → k < 2 ^ 48 → (b : ℕ) (m : Known) → get_or places b None ≡ Some m → m.index ≡ cleared k b → derived m.secret k b ≡ at k
  answers run k small b m is matches =
      let st = stored run b m is in
      let r = k % 2 ^ b in
      let whole : m.index + r ≡ k = ap (λ n. n + r) matches ∙ div-add-mod' k (2 ^ b) in
      let below : r < 2 ^ place_of m.index = (let P : ℕ → Type 0 = λ c. r < 2 ^ c in subst P (sym st.place) (mod-lt k (pow_pos b))) in
      let got = derives run (suc (place_of m.index)) m.index r (omega arith) st.low below (omega arith) in
      ap (λ v. derived v k b) st.secret_is ∙ (λ j. derived (at m.index) (sym whole j) (sym st.place j)) ∙ got ∙ ap at whole

-- What holds of each place behind the first.
shifted : (b k : ℕ) (v : List ℕ) (place : Option Known) (places : Places)
    → ((i : ℕ) (m : Known) → get_or (place ∷ places) i None ≡ Some m → m.index ≡ cleared k (b + i) → derived m.secret k (b + i) ≡ v)
    → (j : ℕ) (m : Known) → get_or places j None ≡ Some m → m.index ≡ cleared k (suc b + j) → derived m.secret k (suc b + j) ≡ v
shifted b k v place places all j m is matches =
    let on : suc b + j ≡ b + suc j = omega arith in
    ap (λ n. derived m.secret k n) on ∙ all (suc j) m is (matches ∙ ap (cleared k) on)

-- An answer is found where one place answers, if all that answer give the same.
found : (b : ℕ) (places : Places) (k : ℕ) (v : List ℕ) → ((i : ℕ) (m : Known) → get_or places i None ≡ Some m → m.index ≡ cleared k (b + i) → derived m.secret k (b + i) ≡ v)
    → (i : ℕ) (m : Known) → get_or places i None ≡ Some m → m.index ≡ cleared k (b + i) → older_from b places k ≡ Some v
found b [] k v all i m is matches = absurd (let z : ◌≡◌ {A = ℕ} 0 1 = cc in omega arith)
found b (place ∷ places) k v all zero m is matches = ap (λ p. first_of (answered k b p) (older_from (suc b) places k)) is ∙ ap (λ t. first_of (cond t (Some (derived m.secret k b)) None) (older_from (suc b) places k)) yes_here ∙ ap Some gives
  where
    same : b + 0 ≡ b
    same = add-zero b

    yes_here : eqb m.index (cleared k b) ≡ true
    yes_here = eq-eqb m.index (cleared k b) (matches ∙ ap (cleared k) same)

    gives : derived m.secret k b ≡ v
    gives = ap (λ n. derived m.secret k n) (sym same) ∙ all 0 m is matches
found b (None ∷ places) k v all (suc i) m is matches = found (suc b) places k v (shifted b k v None places all) i m is (matches ∙ ap (cleared k) (omega arith))
found b (Some m₀ ∷ places) k v all (suc i) m is matches = by (eqb m₀.index (cleared k b)) refl (found (suc b) places k v (shifted b k v (Some m₀) places all) i m is (matches ∙ ap (cleared k) (omega arith)))
  where
    by : (t : Bool) → eqb m₀.index (cleared k b) ≡ t → older_from (suc b) places k ≡ Some v → first_of (cond t (Some (derived m₀.secret k b)) None) (older_from (suc b) places k) ≡ Some v
    by true e later = let same = add-zero b in ap Some (ap (λ n. derived m₀.secret k n) (sym same) ∙ all 0 m₀ refl (eqb-true m₀.index (cleared k b) e ∙ ap (cleared k) (sym same)))
    by false e later = later

-- Clearing one bit more takes that bit off, or nothing.
one_less : (k b : ℕ) → (cleared k b ≡ cleared k (suc b)) ⊎ ((q : ℕ) × (cleared k b ≡ 2 * (q * 2 ^ b) + 2 ^ b) × (cleared k (suc b) ≡ 2 * (q * 2 ^ b)))
one_less k b = by (n % 2) refl
  where
    n : ℕ
    n = k / 2 ^ b

    half : k / 2 ^ suc b ≡ k / 2 ^ b / 2
    half = ap (λ m. k / m) (pow-suc 2 b) ∙ sym (div-div-eq-div-mul k (2 ^ b) 2)

    upper : cleared k (suc b) ≡ 2 * (k / 2 ^ b / 2 * 2 ^ b)
    upper =
        (λ i. half i * pow-succ' 2 b i) ∙ sym (mul_assoc (k / 2 ^ b / 2) 2 (2 ^ b)) ∙ ap (λ m. m * 2 ^ b) (mul_comm (k / 2 ^ b / 2) 2) ∙ mul_assoc 2 (k / 2 ^ b / 2) (2 ^ b)

    by : (d : ℕ) → k / 2 ^ b % 2 ≡ d → (cleared k b ≡ cleared k (suc b)) ⊎ ((q : ℕ) × (cleared k b ≡ 2 * (q * 2 ^ b) + 2 ^ b) × (cleared k (suc b) ≡ 2 * (q * 2 ^ b)))
    by zero even =
        let whole : k / 2 ^ b ≡ 2 * (k / 2 ^ b / 2) = omega arith in
        inl (ap (λ m. m * 2 ^ b) whole ∙ mul_assoc 2 (k / 2 ^ b / 2) (2 ^ b) ∙ sym upper)
    by (suc d) odd =
        let whole : k / 2 ^ b ≡ 2 * (k / 2 ^ b / 2) + 1 = omega arith in
        inr (k / 2 ^ b / 2, ap (λ m. m * 2 ^ b) whole ∙ add-mul (2 * (k / 2 ^ b / 2)) 1 (2 ^ b) ∙ (λ i. mul_assoc 2 (k / 2 ^ b / 2) (2 ^ b) i + one-mul (2 ^ b) i), upper)

-- The last place whose cleared index was taken.
record Last (low k b : ℕ) : Type 0 where
  within : b ≤ 48
  taken : low ≤ cleared k b
  past : (b ≡ 48) ⊎ (cleared k (suc b) < low)

last : (low k b : ℕ) → low ≤ k → b ≤ 48 → (b ≡ 48) ⊎ (cleared k (suc b) < low) → (c : ℕ) × Last low k c
last low k zero h within past = (0, record { within = omega arith; taken = (let whole : cleared k 0 ≡ k = mul-one (k / 1) ∙ div-one k in omega arith); past = past })
last low k (suc b) h within past = ⊎_elim (λ (l : cleared k (suc b) < low). last low k b h (omega arith) (inr l)) (λ (l : low ≤ cleared k (suc b)). (suc b, record { within = within; taken = l; past = past })) (cases_lt (cleared k (suc b)) low)

module _ (s : ℕ → List ℕ) {count : ℕ} {places : Places} (run : Taken s count places) (k : ℕ) (low : 2 ^ 48 - count ≤ k) (small : k < 2 ^ 48) where
  -- That place holds the cleared index.
  held_last : (b : ℕ) → Last (2 ^ 48 - count) k b → get_or places b None ≡ Some (known s (cleared k b))
  held_last b l = ⊎_elim at_top below_top l.past
    where
      under_small : cleared k b < 2 ^ 48
      under_small = let m = div-mul-le_self k (2 ^ b) in omega arith

      at_top : b ≡ 48 → get_or places b None ≡ Some (known s (cleared k b))
      at_top e =
          let none_above : k / 2 ^ 48 ≡ 0 = div-eq_of_lt small in
          let zero_is : cleared k b ≡ 0 = ap (cleared k) e ∙ ap (λ m. m * 2 ^ 48) none_above ∙ zero-mul (2 ^ 48) in
          let place : place_of (cleared k b) ≡ b = ap place_of zero_is ∙ trailing_of_zero 48 ∙ sym e in
          let t = l.taken in
          let pos = pow_pos (place_of (cleared k b)) in
          ap (λ c. get_or places c None) (sym place) ∙ holds s run (cleared k b) l.taken under_small (omega arith)

      below_top : cleared k (suc b) < 2 ^ 48 - count → get_or places b None ≡ Some (known s (cleared k b))
      below_top p = ⊎_elim (λ e. absurd (let t = l.taken in omega arith)) odd (one_less k b)
        where
          odd : (q : ℕ) × (cleared k b ≡ 2 * (q * 2 ^ b) + 2 ^ b) × (cleared k (suc b) ≡ 2 * (q * 2 ^ b)) → get_or places b None ≡ Some (known s (cleared k b))
          odd (q, is, upper) = ⊎_elim inside (λ (f : 48 ≤ b). absurd (full f)) (cases_lt b 48)
            where
              full : 48 ≤ b → ⊥
              full f =
                  let e : b ≡ 48 = (let w = l.within in omega arith) in
                  let P : ℕ → Type 0 = λ c. 2 * (q * 2 ^ c) + 2 ^ c < 2 ^ 48 in
                  let big : 2 * (q * 2 ^ 48) + 2 ^ 48 < 2 ^ 48 = subst P e (omega (arith, under_small)) in
                  omega arith

              inside : b < 48 → get_or places b None ≡ Some (known s (cleared k b))
              inside f =
                  let place : place_of (cleared k b) ≡ b = ap place_of is ∙ lowest 48 b q f in
                  let near : cleared k b < 2 ^ 48 - count + 2 * 2 ^ place_of (cleared k b) =
                  (let P : ℕ → Type 0 = λ c. cleared k b < 2 ^ 48 - count + 2 * 2 ^ c in subst P (sym place) (let pos = pow_pos b in omega arith)) in
                  ap (λ c. get_or places c None) (sym place) ∙ holds s run (cleared k b) l.taken under_small near

  index_back : older places k ≡ Some (s (index_of k))
  unfolding older
  index_back =
      let l = last (2 ^ 48 - count) k 48 low (omega arith) (inl refl) in
      let b = l.0 in
      found 0 places k (s (index_of k)) (λ i m is matches. answers_at i m is matches) b (known s (cleared k b)) (held_last b l.1) (ap (cleared k) (sym (zero-add b)))
    where
      answers_at : (i : ℕ) (m : Known) → get_or places i None ≡ Some m → m.index ≡ cleared k (0 + i) → derived m.secret k (0 + i) ≡ s (index_of k)
      answers_at i m is matches =
          let z = zero-add i in
          ap (λ n. derived m.secret k n) z ∙ answers s run k small i m is (matches ∙ ap (cleared k) z)

taken_few : (s : ℕ → List ℕ) {count : ℕ} {places : Places} → Taken s count places → count ≤ 2 ^ 48
taken_few s none = omega arith
taken_few s (one_more count places run few fit) = omega arith

pub comes_back : ComesBack
comes_back s count places run number l =
    let few = taken_few s run in
    let back : index_of (index_of number) ≡ number = omega arith in
    index_back s run (index_of number) (omega arith) (omega arith) ∙ ap (λ n. Some (s n)) back

-- An index with less than its step added is cleared to the index.
cleared_place : (n r : ℕ) → n < 2 ^ 48 → r < 2 ^ place_of n → cleared (n + r) (place_of n) ≡ n
cleared_place n r small below = ⊎_elim inside full (cases_lt (place_of n) 48)
  where
    inside : place_of n < 48 → cleared (n + r) (place_of n) ≡ n
    inside l =
        let b = place_of n in
        let a = shape 48 n l in
        let product : (2 * a.0 + 1) * 2 ^ b ≡ n = add-mul (2 * a.0) 1 (2 ^ b) ∙ (λ j. mul_assoc 2 a.0 (2 ^ b) j + one-mul (2 ^ b) j) ∙ sym a.1 in
        ap (λ m. m * 2 ^ b) (ap (λ m. (m + r) / 2 ^ b) (sym product) ∙ shr_high (2 * a.0 + 1) b r below) ∙ product

    full : 48 ≤ place_of n → cleared (n + r) (place_of n) ≡ n
    full l =
        let top = trailing_le 48 n in
        let z = all_zeros 48 n (omega arith) small in
        let sum : n + r ≡ r = omega arith in
        ap (λ m. m / 2 ^ place_of n * 2 ^ place_of n) sum ∙ ap (λ m. m * 2 ^ place_of n) (div-eq_of_lt below) ∙ zero-mul (2 ^ place_of n) ∙ sym z

agrees_all : (secret : List ℕ) (b : ℕ) (places : Places) (n : ℕ) → ((c : ℕ) → c < n → agrees secret b (get_or places c None) ≡ true) → agrees_below secret b places n ≡ true
agrees_all secret b places zero each = refl
agrees_all secret b places (suc n) each = (λ i. each n (omega arith) i && agrees_all secret b places n (λ c h. each c (omega arith)) i)

pub honest_fits : HonestFits
unfolding fits
honest_fits seed count places run few = agrees_all (secret_of seed count) (place_of (index_of count)) places (place_of (index_of count)) each
  where
    each : (c : ℕ) → c < place_of (index_of count) → agrees (secret_of seed count) (place_of (index_of count)) (get_or places c None) ≡ true
    each c h =
        let n = index_of count in
        let b = place_of n in
        let k = n + 2 ^ c in
        let pos = pow_pos c in
        let top = trailing_le 48 n in
        let place : place_of k ≡ c = above_place n c h in
        let small : k < 2 ^ 48 = room 48 n c (omega arith) h in
        let near : k < 2 ^ 48 - count + 2 * 2 ^ place_of k = (let P : ℕ → Type 0 = λ m. k < 2 ^ 48 - count + 2 * 2 ^ m in subst P (sym place) (omega arith)) in
        let held : get_or places c None ≡ Some (known (secret_of seed) k) = ap (λ m. get_or places m None) (sym place) ∙ holds (secret_of seed) run k (omega arith) small near in
        let back : index_of (index_of k) ≡ k = omega arith in
        let way : derived (secret_of seed count) k b ≡ secret_of seed (index_of k) =
        ap (λ m. derived (derived seed m 48) k b) (sym (cleared_place n (2 ^ c) (omega arith) (pow_below c b h))) ∙ sym (by_way seed k b 48 top) ∙ ap (λ m. derived seed m 48) (sym back) in
        ap (agrees (secret_of seed count) b) held ∙ (bytes_eq-Decides (derived (secret_of seed count) k b) (secret_of seed (index_of k))).1 way
