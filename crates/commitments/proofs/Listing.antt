-- The bytes of the pending payments, update by update.
use Rattle.std.proofs.Common.{◌≡◌, ℕ, ◌+◌, ◌<◌, Bool, true, false, cond, not, List, [], ◌∷◌, ◌++◌, length, get_or, take, Option, sym, refl, ap, ◌∙◌}
use Rattle.std.specs.List.{flat_map}
use Rattle.std.proofs.lemmas.List.{append-nil, append_assoc, flat_map_more, length-append}
use Rattle.std.proofs.lemmas.List.Sums.{sum_by-cons}
use Rattle.std.proofs.lemmas.Bool.{cond-true, cond-false}
use Rattle.money.specs.Amounts.{Amount}
use Rattle.money.specs.Terms.{Terms}
use Rattle.money.specs.declared.kind.Money.{Ghosts}
use Rattle.logs.specs.declared.update.Update.{Update}
use Rattle.logs.specs.declared.update.Incoming.{Incoming}
use Rattle.logs.specs.declared.update.Update.TheVariants.{Add, Fulfil, Fail, Fee}
use Rattle.logs.specs.Logs.{Log, mean, means, resolved, pending, pending_count}
use Rattle.logs.proofs.Fronts.{front_more}
use Rattle.commitments.specs.declared.side.Side.{Side}
use Rattle.commitments.specs.declared.side.Side.TheVariants.{Funder, Other}
use Rattle.commitments.specs.Bytes.{payment_bytes}
use Rattle.commitments.specs.Commitments.{Payment, listed_one, listed}
use Rattle.commitments.specs.Payments.{payment}

pub joined_append : {A : Type 0} (f : A → List ℕ) (xs ys : List A) → flat_map f (xs ++ ys) ≡ flat_map f xs ++ flat_map f ys
joined_append f [] ys = refl
joined_append f (x ∷ xs) ys = ap (λ l. f x ++ l) (joined_append f xs ys) ∙ sym (append_assoc (f x) (flat_map f xs) (flat_map f ys))

module _ (terms : Terms) (side : Side) (other : Log) where
  abbrev pub bytes_of_all : List Payment → List ℕ
  bytes_of_all payments = flat_map (payment_bytes terms) payments

  module _ (id : ℕ) (amount : Amount) (value : List ℕ) (expiry : ℕ) (incoming : Option Incoming) where
    -- An add that is resolved is not listed, and another is.
    pub listed_none : resolved other id ≡ true → bytes_of_all (listed_one side other (Add id amount value expiry incoming)) ≡ []
    listed_none e = ap bytes_of_all (cond-true (resolved other id) [] (payment side id amount value expiry ∷ []) e)

    pub listed_some : resolved other id ≡ false → bytes_of_all (listed_one side other (Add id amount value expiry incoming)) ≡ payment_bytes terms (payment side id amount value expiry)
    listed_some e = ap bytes_of_all (cond-false (resolved other id) [] (payment side id amount value expiry ∷ []) e) ∙ append-nil (payment_bytes terms (payment side id amount value expiry))

module _ {M : Type 0} (kind : Ghosts M) (side : Side) (other : Log) (log : List (Update M)) where
  abbrev pub so_far : ℕ → List ℕ
  so_far i = flat_map (payment_bytes kind.terms) (listed side other (means kind (take i log)))

  -- One update more.
  pub listed_more : (i : ℕ) (update : Update M) → i < length log → update ≡ get_or log i update → so_far (i + 1) ≡ so_far i ++ flat_map (payment_bytes kind.terms) (listed_one side other (mean kind update))
  listed_more i update inside is =
      let terms = kind.terms in
      ap (λ l. flat_map (payment_bytes terms) (listed side other l)) (front_more kind log i update inside is)
      ∙ ap (flat_map (payment_bytes terms)) (sym (flat_map_more (listed_one side other) [] (means kind (take i log)) (mean kind update)))
      ∙ joined_append (payment_bytes terms) (listed side other (means kind (take i log))) (listed_one side other (mean kind update))

-- An update lists as many payments as it leaves pending.
listed_one_count : (side : Side) (other : Log) (update : Update Amount) → cond (pending other update) 1 0 ≡ length (listed_one side other update)
listed_one_count side other (Add id amount value expiry incoming) = by (resolved other id) (payment side id amount value expiry)
  where
    by : (b : Bool) (p : Payment) → cond (not b) 1 0 ≡ length (cond b [] (p ∷ []))
    by true p = refl
    by false p = refl
listed_one_count side other (Fulfil id key) = refl
listed_one_count side other (Fail id) = refl
listed_one_count side other (Fee rate) = refl

-- The listed payments are as many as are pending.
listed_count : (side : Side) (other log : Log) → pending_count other log ≡ length (listed side other log)
listed_count side other [] = refl
listed_count side other (update ∷ log) =
    sum_by-cons (λ u. cond (pending other u) 1 0) update log
    ∙ (λ i. listed_one_count side other update i + listed_count side other log i)
    ∙ sym (length-append (listed_one side other update) (listed side other log))

pub both_listed : (log other : Log) → pending_count other log + pending_count log other ≡ length (listed Funder other log ++ listed Other log other)
both_listed log other = (λ i. listed_count Funder other log i + listed_count Other log other i) ∙ sym (length-append (listed Funder other log) (listed Other log other))
