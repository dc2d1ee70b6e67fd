-- What the desk says, letter by letter.
use Rattle.std.specs.Prelude.{ℕ, List, ◌++◌, Some, None, codes, decimal, Option}
use Rattle.notation.specs.Hex.{hex_of}
use Rattle.messages.specs.Contents.{Content, add, fulfil, fail, signed, revoked, fee, reestablish}
use Rattle.money.specs.Amounts.{Amount}

-- An amount that its money takes, or the word for one that passes the limit.
abbrev pub amount_text : (Amount → List ℕ) → Option Amount → List ℕ
amount_text shown (Some amount) = shown amount
amount_text shown None = codes "past the limit"

abbrev pub revoked_text : (secret point : List ℕ) → List ℕ
revoked_text secret point = codes "revoked secret " ++ (hex_of secret ++ (codes " point " ++ hex_of point))

abbrev pub reestablish_text : (commitment revocation : ℕ) → List ℕ
reestablish_text commitment revocation = codes "reestablish commitment " ++ (decimal commitment ++ (codes " revocation " ++ decimal revocation))

-- A message, field by field; reads turns the bytes of an amount into their text.
abbrev pub content_text : (List ℕ → List ℕ) → Content → List ℕ
content_text reads (add id amount value expiry) = codes "add id " ++ (decimal id ++ (codes " amount " ++ (reads amount ++ (codes " lock " ++ (hex_of value ++ (codes " expiry " ++ decimal expiry))))))
content_text reads (fulfil id key) = codes "fulfil id " ++ (decimal id ++ (codes " key " ++ hex_of key))
content_text reads (fail id) = codes "fail id " ++ decimal id
content_text reads (signed signature) = codes "signed signature " ++ hex_of signature
content_text reads (revoked secret point) = revoked_text secret point
content_text reads (fee rate) = codes "fee rate " ++ decimal rate
content_text reads (reestablish commitment revocation) = reestablish_text commitment revocation
