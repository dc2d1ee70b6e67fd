-- Which commands a name leaves, and which lock.
use Rattle.std.proofs.Common.{◌≡◌, ℕ, ◌⊎◌, inl, inr, List, get_or, vec_items, codes, Vec, sym, refl, ap, ◌∙◌, arith}
use Rattle.std.specs.declared.alloc.Global.{Global}
use Rattle.commands.specs.declared.command.Command.{Command}
use Rattle.commands.specs.declared.command.Command.TheVariants.{Sha, Read, Opens, CarryKey, CarryValue}
use Rattle.commands.specs.declared.command.LockName.{LockName}
use Rattle.commands.specs.declared.command.LockName.TheVariants.{Hash, Group}
use Rattle.commands.specs.Parsing.{word, behind, Ended, IsMessage, IsNumber, IsValue, IsLock, behind_lock, name_of, Takes, Asks}

-- Words that begin with other letters are not the same.
first : {a b : List ℕ} → a ≡ b → get_or a 0 0 ≡ get_or b 0 0
first e = ap (λ w. get_or w 0 0) e

module _ (line : List ℕ) where
  pub sha_takes : (c : Command) → codes "sha" ≡ name_of c → Takes line c → (message : Vec ℕ Global) × IsMessage (word 0 line) (vec_items message) × Ended (behind 1 line)
  sha_takes (Sha message) e takes = (message, takes.0, takes.1)
  sha_takes (Read channel message) e takes = let other = first e in absurd (omega arith)
  sha_takes (Opens lock key value) e takes = let other = first e in absurd (omega arith)
  sha_takes (CarryKey lock key tweak) e takes = let other = first e in absurd (omega arith)
  sha_takes (CarryValue lock value tweak) e takes = let other = first e in absurd (omega arith)

  pub read_takes : (c : Command) → codes "read" ≡ name_of c → Takes line c → (channel : ℕ) × (message : Vec ℕ Global) × IsNumber (word 0 line) channel × IsMessage (word 1 line) (vec_items message) × Ended (behind 2 line)
  read_takes (Read channel message) e takes = (channel, message, takes.0, takes.1, takes.2)
  read_takes (Sha message) e takes = let other = first e in absurd (omega arith)
  read_takes (Opens lock key value) e takes = let other = first e in absurd (omega arith)
  read_takes (CarryKey lock key tweak) e takes = let other = first e in absurd (omega arith)
  read_takes (CarryValue lock value tweak) e takes = let other = first e in absurd (omega arith)

  pub opens_takes : (c : Command) → codes "opens" ≡ name_of c → Takes line c → (lock : LockName) × IsLock line lock × (key : List ℕ) × (value : List ℕ) × IsValue (word 0 (behind_lock line lock)) key × IsValue (word 1 (behind_lock line lock)) value × Ended (behind 2 (behind_lock line lock))
  opens_takes (Opens lock key value) e takes = (lock, takes.0, key, value, takes.1.0, takes.1.1, takes.1.2)
  opens_takes (Sha message) e takes = let other = first e in absurd (omega arith)
  opens_takes (Read channel message) e takes = let other = first e in absurd (omega arith)
  opens_takes (CarryKey lock key tweak) e takes = let other = first e in absurd (omega arith)
  opens_takes (CarryValue lock value tweak) e takes = let other = first e in absurd (omega arith)

  pub carry_takes : (c : Command) → codes "carry" ≡ name_of c → Takes line c → (lock : LockName) × IsLock line lock × (carried : List ℕ) × (tweak : List ℕ) × IsValue (word 1 (behind_lock line lock)) carried × IsValue (word 2 (behind_lock line lock)) tweak × Ended (behind 3 (behind_lock line lock)) × ((word 0 (behind_lock line lock) ≡ codes "key") ⊎ (word 0 (behind_lock line lock) ≡ codes "value"))
  carry_takes (CarryKey lock key tweak) e takes = (lock, takes.0, key, tweak, takes.1.1, takes.1.2, takes.1.3, inl takes.1.0)
  carry_takes (CarryValue lock value tweak) e takes = (lock, takes.0, value, tweak, takes.1.1, takes.1.2, takes.1.3, inr takes.1.0)
  carry_takes (Sha message) e takes = let other = first e in absurd (omega arith)
  carry_takes (Read channel message) e takes = let other = first e in absurd (omega arith)
  carry_takes (Opens lock key value) e takes = let other = first e in absurd (omega arith)

  -- A line names one lock, so what stands behind it is one.
  pub behind_one : (lock other : LockName) → IsLock line lock → IsLock line other → behind_lock line lock ≡ behind_lock line other
  behind_one Hash Hash a b = refl
  behind_one Hash (Group m o g) a b = let other = first (sym a ∙ b.0) in absurd (omega arith)
  behind_one (Group m o g) Hash a b = let other = first (sym b ∙ a.0) in absurd (omega arith)
  behind_one (Group m o g) (Group m' o' g') a b = refl

-- A line that begins with none of the names asks for no command.
pub unnamed : (line w : List ℕ) → w ≡ word 0 line → (w ≡ codes "sha" → ⊥) → (w ≡ codes "read" → ⊥) → (w ≡ codes "opens" → ⊥) → (w ≡ codes "carry" → ⊥) → (c : Command) → Asks line c → ⊥
unnamed line w first sha read opens carry (Sha message) asks = sha (first ∙ asks.0)
unnamed line w first sha read opens carry (Read channel message) asks = read (first ∙ asks.0)
unnamed line w first sha read opens carry (Opens lock key value) asks = opens (first ∙ asks.0)
unnamed line w first sha read opens carry (CarryKey lock key tweak) asks = carry (first ∙ asks.0)
unnamed line w first sha read opens carry (CarryValue lock value tweak) asks = carry (first ∙ asks.0)
