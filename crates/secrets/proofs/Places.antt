-- The store's places: fitting and answering, place by place.
use Rattle.std.proofs.Common.{◌≡◌, ℕ, zero, suc, ◌+◌, ◌<◌, ◌≤◌, true, ◌&&◌, List, [], ◌∷◌, length, take, get_or, drop, Some, None, sym, refl, ap, ◌∙◌, add-one, arith}
use Rattle.std.proofs.lemmas.List.{drop_more, drop_all}
use Rattle.std.proofs.Math.Bool.{and_comm, and-true}
use Rattle.std.proofs.Math.Seq.{take-suc}
use Rattle.std.proofs.lemmas.List.Folds.{list_all-append}
use Rattle.std.specs.List.{list_all}
use Rattle.secrets.specs.Store.{Places, agrees, agrees_below, answered, first_of, older_from, older}

module _ (secret : List ℕ) (b : ℕ) (places : Places) where
  -- The places below one agree where each of them does.
  pub agreed_below : (n : ℕ) → n ≤ length places → list_all (agrees secret b) (take n places) ≡ agrees_below secret b places n
  agreed_below zero h = refl
  agreed_below (suc n) h =
      let place = get_or places n None in
      ap (list_all (agrees secret b)) (take-suc places n None (omega arith))
      ∙ list_all-append (agrees secret b) (take n places) (place ∷ [])
      ∙ and_comm (list_all (agrees secret b) (take n places)) (agrees secret b place && true)
      ∙ (λ i. and-true (agrees secret b place) i && agreed_below n (omega arith) i)

module _ (places : Places) (index : ℕ) where
  abbrev pub SoFar : ℕ → Type 0
  SoFar b = older_from b (drop b places) index ≡ older places index

  pub asked_none : SoFar 0
  unfolding older
  asked_none = refl

  next : (b : ℕ) → b < length places → older_from b (drop b places) index ≡ first_of (answered index b (get_or places b None)) (older_from (b + 1) (drop (b + 1) places) index)
  next b inside = ap (λ t. older_from b t index) (drop_more places b None inside) ∙ ap (λ n. first_of (answered index b (get_or places b None)) (older_from n (drop (b + 1) places) index)) (sym (add-one b))

  pub asked_more : (b : ℕ) → b < length places → answered index b (get_or places b None) ≡ None → SoFar b → SoFar (b + 1)
  asked_more b inside none so_far = ap (λ o. first_of o (older_from (b + 1) (drop (b + 1) places) index)) (sym none) ∙ sym (next b inside) ∙ so_far

  pub asked_found : (b : ℕ) (secret : List ℕ) → b < length places → answered index b (get_or places b None) ≡ Some secret → SoFar b → Some secret ≡ older places index
  asked_found b secret inside found so_far = ap (λ o. first_of o (older_from (b + 1) (drop (b + 1) places) index)) (sym found) ∙ sym (next b inside) ∙ so_far

  pub asked_all : (b : ℕ) → length places ≤ b → SoFar b → None ≡ older places index
  asked_all b over so_far = ap (λ t. older_from b t index) (sym (drop_all b places over)) ∙ so_far
