use Rattle.std.proofs.Common.{arith}
use Rattle.std.proofs.lemmas.List.{length-append}
use Rattle.commitments.proofs.Fills.{filled_more}
use Rattle.commitments.proofs.sink.FrontSink.put.Goals as goal
use Rattle.commitments.proofs.sink.FrontSink.put.Goals.{else-at-self-via-then-at-self+else-bytes-self, else-at-self-via-else-at-self}

pub returns-then-bytes-self : goal.returns-then-bytes-self
returns-then-bytes-self c =
    λ start m took. (
      took.0,
      λ room.
          let both = length-append m c.args.bytes.now in
          filled_more start.at start.out.now m c.args.bytes.now _ _ _ room (took.1 (omega arith)) c.put.ensures (omega arith),
    )

pub returns-else-at-self : goal.returns-else-at-self
returns-else-at-self c =
    λ start m took. (
      took.0,
      λ room.
          let both = length-append m c.args.bytes.now in
          let so_far = took.1 (omega arith) in
          let behind = so_far.behind in
          let long = so_far.long in
          absurd
          (elim c.else-at-self.branch [
            | else-at-self-via-then-at-self+else-bytes-self w ↦ omega (arith, w.if-at-self.true, w.if-bytes-self.false)
            | else-at-self-via-else-at-self w ↦ omega (arith, w.if-at-self.false)
          ]),
    )
