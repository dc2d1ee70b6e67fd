use Rattle.std.proofs.Common.{◌≡◌, ◌<◌, length, get_or, set, arith, get_or-set_same}
use Rattle.sha256.specs.Fips.{constants}
use Rattle.sha256.proofs.Turns.{turned_more}
use Rattle.sha256.proofs.rounds.round.Goals as goal

pub returns : goal.returns
unfolding constants
returns c start so_far =
    let w = c.args.w.now in
    let t = c.args.t in
    let x = c.word.result in
    let fits : t < length w = omega arith in
    let same : get_or (set w t x) t 0 ≡ x = get_or-set_same w t x 0 fits in
    simp (c.turn.ensures, same) (turned_more start c.args.block.now w c.args.s.now t x so_far fits c.word.ensures)
