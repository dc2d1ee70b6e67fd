use Rattle.std.proofs.Common.{◌≡◌, ℕ, ◌+◌, ◌-◌, ◌%◌, List, ◌∷◌, ◌++◌, length, take, replicate, subst, arith}
use Rattle.sha256.specs.Fips.{padding}
use Rattle.sha256.specs.Stream.{Absorbed}
use Rattle.sha256.proofs.Streams.{mark_front, padded}
use Rattle.sha256.proofs.hasher.Hasher.padded.Goals as goal

pub returns : goal.returns
returns c m held =
    let total : ℕ = c.args.self.now.total in
    let zeros : ℕ = (119 - total % 64) % 64 in
    let long : c.mark_length.result ≡ 1 + zeros = omega arith in
    let all : (m ++ take c.mark_length.result (128 ∷ replicate 63 0)) ++ c.to_bytes.result ≡ m ++ padding (length m) =
    cc (mark_front zeros 63 (omega arith), padded m total held.count) in
    let P : List ℕ → Type 0 = λ t. Absorbed c.absorb-2.new.self t in
    subst P all (c.absorb-2.ensures _ (c.absorb.ensures m held))
