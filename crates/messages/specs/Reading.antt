-- Reading a message by its type and its length alone.
use Rattle.std.specs.Prelude.{ℕ, ◌+◌, cond, List, [], ◌∷◌, length, Some, None, Ok, Err, Option, Result, ◌==◌}
use Rattle.octets.specs.Numbers.{number_of}
use Rattle.octets.specs.Places.{part}
use Rattle.messages.specs.declared.message.Message.{Message}
use Rattle.messages.specs.Contents.{Content, content, add, fulfil, fail, signed, revoked, fee, reestablish}

-- The number that stands in so many bytes from a place on.
abbrev pub number_at : ℕ → ℕ → List ℕ → ℕ
number_at at count bs = number_of (part at count bs)

-- Fields of the right length in all are taken; any other length is refused.
abbrev pub whole : ℕ → List ℕ → Content → Option Content
whole long fields m = cond (length fields == long) (Some m) None

-- An add: id, amount, lock value, expiry.
abbrev pub read_add : ℕ → List ℕ → Option Content
read_add width fields = whole (38 + width) fields (add (number_at 0 2 fields) (part 2 width fields) (part (2 + width) 32 fields) (number_at (34 + width) 4 fields))

-- The fields of a type; an unknown type is refused.
unfoldable pub read_fields : ℕ → ℕ → List ℕ → Option Content
read_fields width type fields =
    cond (type == 128) (read_add width fields)
    (cond (type == 130) (whole 34 fields (fulfil (number_at 0 2 fields) (part 2 32 fields)))
    (cond (type == 131) (whole 2 fields (fail (number_at 0 2 fields)))
    (cond (type == 132) (whole 32 fields (signed (part 0 32 fields)))
    (cond (type == 133) (whole 64 fields (revoked (part 0 32 fields) (part 32 32 fields)))
    (cond (type == 134) (whole 4 fields (fee (number_at 0 4 fields)))
    (cond (type == 136) (whole 16 fields (reestablish (number_at 0 8 fields) (number_at 8 8 fields)))
    None))))))

-- A message shorter than its type is refused.
unfoldable pub read_message : ℕ → List ℕ → Option Content
read_message width [] = None
read_message width (high ∷ []) = None
read_message width (high ∷ (low ∷ fields)) = read_fields width (number_of (high ∷ low ∷ [])) fields

-- What an answer that borrows its fields says.
abbrev pub contents : {F : Type 0} → Result Message F → Result Content F
contents (Ok m) = Ok (content m)
contents (Err f) = Err f
