-- The fee is at most what the funder has.
use Rattle.std.proofs.Common.{◌≡◌, ℕ, zero, suc, ◌-◌, ◌≤◌, min, eqb, Some, None, Option, sym, ◌∙◌, subst, arith}
use Rattle.std.proofs.lemmas.Bool.{ne_eqb, cond-false}
use Rattle.money.specs.Amounts.{Amount, units_from, difference_of}
use Rattle.money.proofs.Contains.{given}

units_within : (units : ℕ) (gross : Amount) (k : ℕ) → units_from units gross k ≤ gross k
units_within units gross zero = omega arith
units_within units gross (suc k) = let none = cond-false (eqb (suc k) 0) (min units (gross (suc k))) 0 (ne_eqb (suc k) 0 (λ e. omega arith)) in omega arith

is_some : {A : Type 0} → Option A → Type 0
is_some (Some x) = Unit {0}
is_some None = ⊥

-- So the fee can always be taken off.
pub fee_comes_off : (n units : ℕ) (gross fee : Amount) → fee ≡ units_from units gross → None ≡ difference_of n gross fee → ⊥
unfolding is_some
fee_comes_off n units gross fee is refused =
    let each : (k : ℕ) → fee k ≤ gross k = λ k. subst (λ (f : Amount). f k ≤ gross k) (sym is) (units_within units gross k) in
    subst is_some (sym (refused ∙ given n gross fee (λ k. gross k - fee k) (λ k below. each k))) tt
