-- What a refusal below says of the line above it.
use Rattle.std.proofs.Common.{◌≡◌, ℕ, false, ◌⊎◌, List, IsErrAnd, Ok, Err, Option, Result, sym, ◌∙◌, subst, inl, inr}
use Rattle.notation.specs.Lines.{passed_over}
use Rattle.commands.specs.declared.command.Command.{Command}
use Rattle.commands.specs.declared.fault.Fault.{Fault}
use Rattle.commands.specs.declared.fault.Fault.TheVariants.{NoMemory}
use Rattle.commands.specs.Parsing.{Asks, Reads, Parsed}

module _ {A B : Type 0} (Part : List ℕ → A → Type 0) (Whole : B → Type 0) where
  -- Where a part cannot be read, nothing can that has such a part.
  pub passed_on : (here line : List ℕ) → here ≡ line → (r : Result B Fault) (fault : Fault) → IsErrAnd r (λ f. f ≡ fault) → (fault ≡ NoMemory) ⊎ ((a : A) → Part here a → ⊥) → ((b : B) → Whole b → (a : A) × Part line a) → Reads Whole r
  passed_on here line same (Ok b) fault is none has = absurd is
  passed_on here line same (Err f) fault is (inl wanting) has = inl (is ∙ wanting)
  passed_on here line same (Err f) fault is (inr none) has =
      inr (λ b whole. let part = has b whole in let P : List ℕ → Type 0 = λ l. Part l part.0 in none part.0 (subst P (sym same) part.1))

-- A line with a word that asks for no command has a fault.
pub declined : (line : List ℕ) (r : Result (Option Command) Fault) (fault : Fault) → IsErrAnd r (λ f. f ≡ fault) → passed_over line ≡ false → (fault ≡ NoMemory) ⊎ ((command : Command) → Asks line command → ⊥) → Parsed line r
declined line (Ok answer) fault is word none = absurd is
declined line (Err f) fault is word (inl wanting) = (word, inl (is ∙ wanting))
declined line (Err f) fault is word (inr none) = (word, inr (λ command shown asks. none command asks))
