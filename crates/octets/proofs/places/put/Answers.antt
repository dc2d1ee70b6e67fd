use Rattle.std.proofs.Common.{◌≡◌, ◌+◌, ◌-◌, ◌++◌, length, take, drop, ap, ◌∙◌, arith}
use Rattle.std.proofs.lemmas.List.{drop-drop}
use Rattle.octets.specs.Places.{over}
use Rattle.octets.proofs.places.put.Goals as goal

pub returns : goal.returns
unfolding over
returns c =
    let out = c.args.out.now in
    let at = c.args.at in
    let piece = c.args.piece.now in
    let n : at + length piece - at ≡ length piece = omega arith in
    ap (λ p. take at out ++ (p ++ drop (at + length piece - at) (drop at out))) c.copy_from_slice.ensures.after
    ∙ ap (λ k. take at out ++ (piece ++ drop k (drop at out))) n
    ∙ ap (λ rest. take at out ++ (piece ++ rest)) (drop-drop (length piece) at out)
