-- Writing and reading undo each other.
use Rattle.std.specs.Prelude.{◌≡◌, ℕ, List, Some}
use Rattle.octets.specs.Numbers.{Bytes}
use Rattle.money.specs.Amounts.{limited}
use Rattle.money.specs.declared.kind.Money.{Ghosts}
use Rattle.messages.specs.Contents.{Content, message_bytes, Fits}
use Rattle.messages.specs.Reading.{read_message}

-- For a money kind: what is written reads back as that message; the bytes of an amount read as a value that means
-- the same whole numbers; and what is read, written again, gives the same bytes.
pub record RoundTrip {M : Type 0} (kind : Ghosts M) : Type 0 where
  pub message : (m : Content) → Fits kind.terms.width m → read_message kind.terms.width (message_bytes m) ≡ Some m
  pub amount : (x : M) → limited kind.terms.assets kind.terms.limit (kind.terms.stands (kind.terms.written (kind.asset x))) ≡ Some (kind.asset x)
  pub bytes : (bs : List ℕ) (m : Content) → Bytes bs → read_message kind.terms.width bs ≡ Some m → message_bytes m ≡ bs
