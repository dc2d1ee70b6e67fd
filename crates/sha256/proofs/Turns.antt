-- One round on: a word more of the schedule, and the working variables turned by it.
use Rattle.std.proofs.Common.{◌≡◌, ℕ, ◌+◌, ◌-◌, ◌<◌, ◌≤◌, List, [], ◌∷◌, ◌++◌, length, get_or, take, set, refl, add-one, arith}
use Rattle.std.proofs.lemmas.List.{get_or-take, take_more_set}
use Rattle.sha256.specs.Fips.{constants, mixed, word, schedule, round, rounds}
use Rattle.sha256.specs.Rounds.{Turned}

-- A mixed word looks only at the words before it.
pub mixed_front : (w : List ℕ) (t : ℕ) → 16 ≤ t → mixed (take t w) t ≡ mixed w t
unfolding mixed
mixed_front w t h =
    let back : (n : ℕ) → 0 < n → n ≤ 16 → get_or (take t w) (t - n) 0 ≡ get_or w (t - n) 0 = λ n p q. get_or-take t w (t - n) 0 (omega arith) in
    cc (back 2 (omega arith) (omega arith), back 7 (omega arith) (omega arith), back 15 (omega arith) (omega arith), back 16 (omega arith) (omega arith))

schedule_more : (block : List ℕ) (t : ℕ) → schedule block (t + 1) ≡ schedule block t ++ (word block (schedule block t) t ∷ [])
unfolding schedule
schedule_more block t = rw (add-one t)

rounds_more : (s block : List ℕ) (t : ℕ) → rounds s block (t + 1) ≡ round (rounds s block t) (get_or constants t 0) (word block (schedule block t) t)
unfolding rounds
rounds_more s block t = rw (add-one t)

-- Before the first round.
pub not_turned : (start block w : List ℕ) → Turned start block 0 w start
unfolding schedule rounds
not_turned start block w = record { words = refl; variables = refl }

pub turned_more : (start block w s : List ℕ) (t x : ℕ) → Turned start block t w s → t < length w → x ≡ word block (take t w) t → Turned start block (t + 1) (set w t x) (round s (get_or constants t 0) x)
turned_more start block w s t x so_far fits e =
    record {
      words = cc (so_far.words, take_more_set w t x fits, schedule_more block t);
      variables = cc (so_far.words, so_far.variables, rounds_more start block t);
    }
