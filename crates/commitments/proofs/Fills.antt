-- Filling a row piece by piece.
use Rattle.std.proofs.Common.{◌≡◌, ℕ, ◌+◌, ◌≤◌, List, [], ◌++◌, length, sym, refl, ap, ◌∙◌, subst, add-zero, arith}
use Rattle.std.proofs.lemmas.List.{length-append, append_assoc, append-nil}
use Rattle.octets.specs.Places.{over}
use Rattle.octets.proofs.Parts.{over_none, over_over}
use Rattle.commitments.specs.Sinks.{Filled, Puts}

module _ (at : ℕ) (row : List ℕ) where
  pub filled_none : Filled at row [] at row
  filled_none = record { bytes = sym (over_none row at); behind = sym (add-zero at); long = refl }

  pub filled_more : (m piece : List ℕ) (next : ℕ) (filled filled' : List ℕ) → at + length (m ++ piece) ≤ length row → Filled at row m next filled
      → filled' ≡ over filled next piece → length filled' ≡ length filled → Filled at row (m ++ piece) (next + length piece) filled'
  filled_more m piece next filled filled' room so_far put same =
      let behind = so_far.behind in
      let both = length-append m piece in
      record {
        bytes = put ∙ ap (λ t. over t next piece) so_far.bytes ∙ over_over row m piece at next (omega arith) (sym behind);
        behind = omega arith;
        long = same ∙ so_far.long;
      }

module _ {S : Type 0} (took : S → List ℕ → S → Type 0) where
  -- One piece after another is one piece, and none is none.
  pub puts_then : (a b c : S) (p q : List ℕ) → Puts took a p b → Puts took b q c → Puts took a (p ++ q) c
  puts_then a b c p q first second start m h =
      let P : List ℕ → Type 0 = λ n. took start n c in
      subst P (append_assoc m p q) (second start (m ++ p) (first start m h))

  pub puts_none : (a : S) → Puts took a [] a
  puts_none a start m h = let P : List ℕ → Type 0 = λ n. took start n a in subst P (sym (append-nil m)) h

  -- A piece by another name.
  pub puts_same : (a b : S) (p q : List ℕ) → p ≡ q → Puts took a p b → Puts took a q b
  puts_same a b p q same put start m h = let P : List ℕ → Type 0 = λ n. took start (m ++ n) b in subst P same (put start m h)
