-- A log, update by update.
use Rattle.std.proofs.Common.{◌≡◌, ℕ, ◌+◌, ◌<◌, ◌≤◌, List, [], ◌∷◌, ◌++◌, length, get_or, take, drop, sym, ap, ◌∙◌}
use Rattle.std.proofs.lemmas.List.{drop_more, drop_all, take_more, map_push}
use Rattle.money.specs.declared.kind.Money.{Ghosts}
use Rattle.logs.specs.declared.update.Update.{Update}
use Rattle.logs.specs.Logs.{mean, means}

module _ {M : Type 0} (kind : Ghosts M) (log : List (Update M)) (i : ℕ) where
  -- The next update, and those behind it.
  pub next_update : (update : Update M) → i < length log → update ≡ get_or log i update → means kind (drop i log) ≡ mean kind update ∷ means kind (drop (i + 1) log)
  next_update update inside is = ap (means kind) (drop_more log i update inside ∙ ap (λ u. u ∷ drop (i + 1) log) (sym is))

  pub no_update : length log ≤ i → means kind (drop i log) ≡ []
  no_update over = ap (means kind) (drop_all i log over)

-- The front of a log with one update more.
pub front_more : {M : Type 0} (kind : Ghosts M) (log : List (Update M)) (i : ℕ) (update : Update M) → i < length log → update ≡ get_or log i update → means kind (take (i + 1) log) ≡ means kind (take i log) ++ mean kind update ∷ []
front_more kind log i update inside is = ap (means kind) (take_more log i update inside ∙ ap (λ u. take i log ++ u ∷ []) (sym is)) ∙ map_push (mean kind) (take i log) update
