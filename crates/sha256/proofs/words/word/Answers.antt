use Rattle.std.proofs.Common.{arith, lt-ltb, le-ltb}
use Rattle.sha256.specs.Fips.{mixed, word}
use Rattle.sha256.proofs.Turns.{mixed_front}
use Rattle.sha256.proofs.words.word.Goals as goal

pub returns-then-t-lt16 : goal.returns-then-t-lt16
unfolding word
returns-then-t-lt16 c = rw (lt-ltb c.args.t 16 (omega arith)) c.read.ensures

pub returns-else-t-lt16 : goal.returns-else-t-lt16
unfolding word mixed
returns-else-t-lt16 c = rw (le-ltb c.args.t 16 (omega arith)) (cc (mixed_front c.args.w.now c.args.t (omega arith)))
