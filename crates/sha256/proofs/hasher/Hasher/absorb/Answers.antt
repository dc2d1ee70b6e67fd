use Rattle.std.proofs.Common.{◌++◌, take}
use Rattle.std.proofs.lemmas.List.{append_assoc, take_rest, take-append-drop}
use Rattle.sha256.proofs.hasher.Hasher.absorb.Goals as goal

pub loop-rest-preserved : goal.loop-rest-preserved
loop-rest-preserved c =
    let (front, whole, took) = c.loop-rest.invariant in
    let count = c.fill-count.result in (
      front ++ take count c.loop-rest.rest.now,
      simp (take_rest, append_assoc, take-append-drop) whole,
      λ m h. rw (← append_assoc) (c.fill-count.ensures.took (m ++ front) (took m h)),
    )
