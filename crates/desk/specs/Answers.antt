-- What the desk answers to each question.
use Rattle.std.specs.Prelude.{◌≡◌, ℕ, Bool, true, cond, List, ◌++◌, length, Some, None, Ok, Err, vec_items, string_bytes, codes, decimal, Option, Result, String, ◌==◌}
use Rattle.std.specs.declared.alloc.Global.{Global}
use Rattle.commands.specs.declared.command.Command.{Command}
use Rattle.commands.specs.declared.command.Command.TheVariants.{Sha, Read, Opens, CarryKey, CarryValue}
use Rattle.commands.specs.declared.command.LockName.{LockName}
use Rattle.notation.specs.Hex.{hex_of}
use Rattle.messages.specs.Contents.{Content}
use Rattle.messages.specs.Reading.{read_message}
use Rattle.money.specs.Amounts.{Amount, limited}
use Rattle.money.specs.Terms.{Terms, eights}
use Rattle.money.specs.Texts.{satoshi_text}
use Rattle.refusals.specs.Reasons.{reason_number}
use Rattle.refusals.specs.Refusals.{refusal_text}
use Rattle.refusals.specs.declared.reason.Reason.TheVariants.{Unreadable, OutOfBounds}
use Rattle.sha256.specs.Fips.{hash}
use Rattle.desk.specs.declared.answer.Decline.{Decline}
use Rattle.desk.specs.declared.answer.Decline.TheVariants.{Refused, NotMade}
use Rattle.desk.specs.declared.answer.Unanswered.{Unanswered}
use Rattle.desk.specs.declared.answer.Unanswered.TheVariants.{Declined, NoMemory}
use Rattle.desk.specs.NamedLocks.{meaning_of, Makeable}
use Rattle.desk.specs.Texts.{amount_text, content_text}

-- What is said to a question: a text, or why it is declined.
abbrev pub Reply : Type 0
Reply = Result (String Global) Decline

-- A refusal says its number, layer, channel and words; where no channel is concerned, the number alone.
abbrev pub decline_text : Decline → List ℕ
decline_text (Refused refusal) = refusal_text refusal
decline_text (NotMade reason) = codes "declined " ++ decimal (reason_number reason)

-- What is said where there is no text: what the decline says, or that memory is wanting.
abbrev pub unanswered_text : Unanswered → List ℕ
unanswered_text (Declined decline) = decline_text decline
unanswered_text NoMemory = codes "memory is wanting"

-- What is said is what a question asks, unless memory is wanting.
abbrev pub Answers : (Reply → Type 0) → Result (String Global) Unanswered → Type 0
Answers Asked (Ok text) = Asked (Ok text)
Answers Asked (Err (Declined decline)) = Asked (Err decline)
Answers Asked (Err NoMemory) = Unit {0}

-- The amount that bytes of the money's width stand for, unless it passes the limit.
abbrev pub amount_read : Terms → List ℕ → Option Amount
amount_read terms bs = cond (length bs == terms.width) (limited terms.assets terms.limit (terms.stands bs)) None

-- `read`: the fields of the message, or refused as unreadable, which is number 4 of the message layer.
abbrev pub ReadSaid : Terms → (Amount → List ℕ) → ℕ → List ℕ → Reply → Type 0
ReadSaid terms shown channel bytes (Ok text) = (m : Content) × (read_message terms.width bytes ≡ Some m) × (string_bytes text ≡ content_text (λ bs. amount_text shown (amount_read terms bs)) m)
ReadSaid terms shown channel bytes (Err decline) = (read_message terms.width bytes ≡ None) × (decline ≡ Refused (record { reason = Unreadable; channel = channel }))

-- `opens`: yes exactly where the value is the lock value of the key; a group that cannot be made is declined as out of bounds, which is number 5.
abbrev pub OpensSaid : LockName → (key value : List ℕ) → Reply → Type 0
OpensSaid lock key value (Ok text) =
    Makeable lock × (b : Bool) × ((b ≡ true → value ≡ (meaning_of lock).value_of key) × (value ≡ (meaning_of lock).value_of key → b ≡ true)) × (string_bytes text ≡ cond b (codes "yes") (codes "no"))
OpensSaid lock key value (Err decline) = (Makeable lock → ⊥) × (decline ≡ NotMade OutOfBounds)

-- `carry`: the carried key or value in hex, or declined likewise.
abbrev pub CarrySaid : LockName → (carried : List ℕ) → Reply → Type 0
CarrySaid lock carried (Ok text) = Makeable lock × (string_bytes text ≡ hex_of carried)
CarrySaid lock carried (Err decline) = (Makeable lock → ⊥) × (decline ≡ NotMade OutOfBounds)

-- The answer to each command; amounts are in satoshi.
abbrev pub Said : Command → Reply → Type 0
Said (Sha message) (Ok text) = string_bytes text ≡ hex_of (hash (vec_items message))
Said (Sha message) (Err decline) = ⊥
Said (Read channel message) answer = ReadSaid (eights 1) satoshi_text channel (vec_items message) answer
Said (Opens lock key value) answer = OpensSaid lock key value answer
Said (CarryKey lock key tweak) answer = CarrySaid lock ((meaning_of lock).carried_key key tweak) answer
Said (CarryValue lock value tweak) answer = CarrySaid lock ((meaning_of lock).carried_value value tweak) answer

-- The text of an answer, and a page of the book: its number, the command's name and the answer.
abbrev pub text_of : Reply → List ℕ
text_of (Ok text) = string_bytes text
text_of (Err decline) = decline_text decline

abbrev pub page_text : ℕ → List ℕ → Reply → List ℕ
page_text number name answer = decimal number ++ (codes " " ++ (name ++ (codes ": " ++ text_of answer)))
