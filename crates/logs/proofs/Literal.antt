-- Where the money refuses nothing on the way, the walk is the literal sum.
use Rattle.std.proofs.Common.{◌≡◌, ℕ, suc, ◌+◌, ◌-◌, ◌<◌, Bool, true, false, cond, ◌||◌, eqb, [], ◌∷◌, Some, None, Option, unwrap_or, sym, refl, ap, ◌∙◌, arith}
use Rattle.std.proofs.lemmas.Bool.{eqb-true, eqb-false, ne_eqb, eq-eqb}
use Rattle.money.specs.Amounts.{Amount, contains}
use Rattle.money.specs.Terms.{Terms}
use Rattle.money.proofs.Contains.{contains_decides}
use Rattle.logs.specs.declared.update.Update.TheVariants.{Add, Fulfil, Fail, Fee}
use Rattle.logs.specs.Gross.{lessened, raised, credited, moved, walked, adds_total, Numbered, FulfilledOnce, NothingRefused, LiteralGross}
use Rattle.logs.specs.Logs.{Log, fulfilled, failed, either, amount_of}

-- What an amount holds of an asset, where there is one.
abbrev part_of : Option Amount → ℕ → ℕ
part_of None k = 0
part_of (Some amount) k = amount k

-- What a log's fulfils pay, in one asset.
abbrev paid_in : Log → ℕ → Log → ℕ
paid_in other k [] = 0
paid_in other k (Add id amount value expiry incoming ∷ log) = paid_in other k log
paid_in other k (Fulfil id key ∷ log) = part_of (amount_of other id) k + paid_in other k log
paid_in other k (Fail id ∷ log) = paid_in other k log
paid_in other k (Fee rate ∷ log) = paid_in other k log

module _ (terms : Terms) (other : Log) (k : ℕ) (asset : k < terms.assets) where
  -- Each step of the walk, where the money does not refuse it.
  off : (held amount : Amount) → contains terms.assets held amount ≡ true → lessened terms held amount k + amount k ≡ held k
  off held amount goes =
      let is : lessened terms held amount ≡ (λ j. held j - amount j) = ap (λ b. unwrap_or (cond b (Some (λ j. held j - amount j)) None) held) goes in
      let at : lessened terms held amount k ≡ held k - amount k = ap (λ f. f k) is in
      let enough = (contains_decides terms.assets held amount).0 goes k asset in
      omega arith

  on : (held amount : Amount) → contains terms.assets (λ _. terms.limit) (λ j. held j + amount j) ≡ true → raised terms held amount k ≡ held k + amount k
  on held amount goes = ap (λ b. unwrap_or (cond b (Some (λ j. held j + amount j)) None) held k) goes

  credit_on : (held : Amount) (o : Option Amount) → ((amount : Amount) → o ≡ Some amount → contains terms.assets (λ _. terms.limit) (λ j. held j + amount j) ≡ true) → credited terms held o k ≡ held k + part_of o k
  credit_on held None goes = omega arith
  credit_on held (Some amount) goes = on held amount (goes amount refl)

  walk_sum : (log : Log) (held : Amount) → NothingRefused terms other held log
      → walked terms other held log k + adds_total (λ _. true) log k ≡ held k + adds_total (failed other) log k + paid_in other k log
  walk_sum [] held goes = omega arith
  walk_sum (Add id amount value expiry incoming ∷ log) held goes = by (failed other id) refl (walk_sum log (moved terms other held (Add id amount value expiry incoming)) goes.1)
    where
      by : (b : Bool) → failed other id ≡ b
          → walked terms other (moved terms other held (Add id amount value expiry incoming)) log k + adds_total (λ _. true) log k
          ≡ moved terms other held (Add id amount value expiry incoming) k + adds_total (failed other) log k + paid_in other k log
          → walked terms other (moved terms other held (Add id amount value expiry incoming)) log k + (amount k + adds_total (λ _. true) log k)
          ≡ held k + (cond (failed other id) (amount k) 0 + adds_total (failed other) log k) + paid_in other k log
      by true e rest =
          let same : moved terms other held (Add id amount value expiry incoming) k ≡ held k = ap (λ b. cond b held (lessened terms held amount) k) e in
          let back : cond (failed other id) (amount k) 0 ≡ amount k = ap (λ b. cond b (amount k) 0) e in
          omega arith
      by false e rest =
          let same : moved terms other held (Add id amount value expiry incoming) k ≡ lessened terms held amount k = ap (λ b. cond b held (lessened terms held amount) k) e in
          let back : cond (failed other id) (amount k) 0 ≡ 0 = ap (λ b. cond b (amount k) 0) e in
          let less = off held amount (goes.0 e) in
          omega arith
  walk_sum (Fulfil id key ∷ log) held goes =
      let rest = walk_sum log (moved terms other held (Fulfil id key)) goes.1 in
      let more = credit_on held (amount_of other id) goes.0 in
      omega arith
  walk_sum (Fail id ∷ log) held goes = let rest = walk_sum log held goes.1 in omega arith
  walk_sum (Fee rate ∷ log) held goes = let rest = walk_sum log held goes.1 in omega arith

module _ (k id : ℕ) (test : ℕ → Bool) where
  -- An id below all those of a log changes no sum over it.
  absent : (n : ℕ) (log : Log) → Numbered n log → id < n → (adds_total (λ i. eqb id i || test i) log k ≡ adds_total test log k) × (part_of (amount_of log id) k ≡ 0)
  absent n [] numbers below = (refl, refl)
  absent n (Add i amount value expiry incoming ∷ log) numbers below =
      let rest = absent (suc n) log numbers.1 (omega arith) in
      let is = numbers.0 in
      let not_it : eqb id i ≡ false = ne_eqb id i (λ e. omega arith) in
      let not_that : eqb i id ≡ false = ne_eqb i id (λ e. omega arith) in (
        (λ j. cond (not_it j || test i) (amount k) 0 + rest.0 j),
        ap (λ b. part_of (either (cond b (Some amount) None) (amount_of log id)) k) not_that ∙ rest.1,
      )
  absent n (Fulfil i key ∷ log) numbers below = absent n log numbers below
  absent n (Fail i ∷ log) numbers below = absent n log numbers below
  absent n (Fee rate ∷ log) numbers below = absent n log numbers below

  -- One id more in the test adds its amount, if the test had it not.
  one_more : (n : ℕ) (log : Log) → Numbered n log → test id ≡ false → adds_total (λ i. eqb id i || test i) log k ≡ part_of (amount_of log id) k + adds_total test log k
  one_more n [] numbers new = refl
  one_more n (Add i amount value expiry incoming ∷ log) numbers new = by (eqb i id) refl (one_more (suc n) log numbers.1 new)
    where
      by : (b : Bool) → eqb i id ≡ b → adds_total (λ j. eqb id j || test j) log k ≡ part_of (amount_of log id) k + adds_total test log k
          → cond (eqb id i || test i) (amount k) 0 + adds_total (λ j. eqb id j || test j) log k
          ≡ part_of (either (cond (eqb i id) (Some amount) None) (amount_of log id)) k + (cond (test i) (amount k) 0 + adds_total test log k)
      by true e rest =
          let same = eqb-true i id e in
          let here : cond (eqb id i || test i) (amount k) 0 ≡ amount k = ap (λ b. cond (b || test i) (amount k) 0) (eq-eqb id i (sym same)) in
          let found : part_of (either (cond (eqb i id) (Some amount) None) (amount_of log id)) k ≡ amount k = ap (λ b. part_of (either (cond b (Some amount) None) (amount_of log id)) k) e in
          let old : cond (test i) (amount k) 0 ≡ 0 = ap (λ m. cond (test m) (amount k) 0) same ∙ ap (λ b. cond b (amount k) 0) new in
          let is = numbers.0 in
          let later = absent (suc n) log numbers.1 (omega arith) in
          omega (arith, later.0)
      by false e rest =
          let not_it : eqb id i ≡ false = ne_eqb id i (λ f. eqb-false i id e (sym f)) in
          let here : cond (eqb id i || test i) (amount k) 0 ≡ cond (test i) (amount k) 0 = ap (λ b. cond (b || test i) (amount k) 0) not_it in
          let found : part_of (either (cond (eqb i id) (Some amount) None) (amount_of log id)) k ≡ part_of (amount_of log id) k = ap (λ b. part_of (either (cond b (Some amount) None) (amount_of log id)) k) e in
          omega arith
  one_more n (Fulfil i key ∷ log) numbers new = one_more n log numbers new
  one_more n (Fail i ∷ log) numbers new = one_more n log numbers new
  one_more n (Fee rate ∷ log) numbers new = one_more n log numbers new

none_pass : (k : ℕ) (log : Log) → adds_total (λ _. false) log k ≡ 0
none_pass k [] = refl
none_pass k (Add i amount value expiry incoming ∷ log) = let rest = none_pass k log in omega arith
none_pass k (Fulfil i key ∷ log) = let rest = none_pass k log in omega arith
none_pass k (Fail i ∷ log) = let rest = none_pass k log in omega arith
none_pass k (Fee rate ∷ log) = let rest = none_pass k log in omega arith

-- What a log's fulfils pay is the sum of the adds that it fulfils, each once.
paid_is : (other : Log) (k : ℕ) → Numbered 0 other → (log : Log) → FulfilledOnce log → paid_in other k log ≡ adds_total (fulfilled log) other k
paid_is other k numbers [] once = sym (none_pass k other)
paid_is other k numbers (Add i amount value expiry incoming ∷ log) once = paid_is other k numbers log once
paid_is other k numbers (Fulfil i key ∷ log) once = ap (λ n. part_of (amount_of other i) k + n) (paid_is other k numbers log once.1) ∙ sym (one_more k i (fulfilled log) 0 other numbers once.0)
paid_is other k numbers (Fail i ∷ log) once = paid_is other k numbers log once
paid_is other k numbers (Fee rate ∷ log) once = paid_is other k numbers log once

pub literal_gross : (terms : Terms) → LiteralGross terms
literal_gross terms other log share numbers once goes k asset =
    walk_sum terms other k asset log share goes ∙ ap (λ n. share k + adds_total (failed other) log k + n) (paid_is other k numbers log once)
