-- What a message says, and its bytes.
use Rattle.std.specs.Prelude.{◌≡◌, ℕ, ◌^◌, ◌<◌, List, ◌++◌, length}
use Rattle.octets.specs.Numbers.{bytes_of}
use Rattle.messages.specs.declared.message.Message.{Message}
use Rattle.messages.specs.declared.message.Message.TheVariants.{Add, Fulfil, Fail, Signed, Revoked, Fee, Reestablish}

-- A message by its values; the amount of an add is the bytes that stand for it.
pub data Content : Type 0 where
  add : (id : ℕ) (amount value : List ℕ) (expiry : ℕ) → Content
  fulfil : (id : ℕ) (key : List ℕ) → Content
  fail : (id : ℕ) → Content
  signed : (signature : List ℕ) → Content
  revoked : (secret point : List ℕ) → Content
  fee : (rate : ℕ) → Content
  reestablish : (commitment revocation : ℕ) → Content

-- What a message that borrows its fields says.
abbrev pub content : Message → Content
content (Add id amount value expiry) = add id amount.now value.now expiry
content (Fulfil id key) = fulfil id key.now
content (Fail id) = fail id
content (Signed signature) = signed signature.now
content (Revoked secret point) = revoked secret.now point.now
content (Fee rate) = fee rate
content (Reestablish commitment revocation) = reestablish commitment revocation

-- The number of each type.
abbrev pub type_of : Content → ℕ
type_of (add id amount value expiry) = 128
type_of (fulfil id key) = 130
type_of (fail id) = 131
type_of (signed signature) = 132
type_of (revoked secret point) = 133
type_of (fee rate) = 134
type_of (reestablish commitment revocation) = 136

-- The fields of each type in their order: ids take 2 bytes, expiries and rates 4, commitment and revocation numbers 8.
abbrev pub fields_of : Content → List ℕ
fields_of (add id amount value expiry) = bytes_of 2 id ++ (amount ++ (value ++ bytes_of 4 expiry))
fields_of (fulfil id key) = bytes_of 2 id ++ key
fields_of (fail id) = bytes_of 2 id
fields_of (signed signature) = signature
fields_of (revoked secret point) = secret ++ point
fields_of (fee rate) = bytes_of 4 rate
fields_of (reestablish commitment revocation) = bytes_of 8 commitment ++ bytes_of 8 revocation

-- The bytes of a message: its type in 2 bytes, then its fields.
abbrev pub message_bytes : Content → List ℕ
message_bytes m = bytes_of 2 (type_of m) ++ fields_of m

-- The fields fit their places; an amount has the money's width.
abbrev pub Fits : ℕ → Content → Type 0
Fits width (add id amount value expiry) = (id < 256 ^ 2) × (length amount ≡ width) × (length value ≡ 32) × (expiry < 256 ^ 4)
Fits width (fulfil id key) = (id < 256 ^ 2) × (length key ≡ 32)
Fits width (fail id) = id < 256 ^ 2
Fits width (signed signature) = length signature ≡ 32
Fits width (revoked secret point) = (length secret ≡ 32) × (length point ≡ 32)
Fits width (fee rate) = rate < 256 ^ 4
Fits width (reestablish commitment revocation) = (commitment < 256 ^ 8) × (revocation < 256 ^ 8)
