-- Writing and reading undo each other.
use Rattle.std.proofs.Common.{◌≡◌, ℕ, zero, suc, ◌+◌, ◌≤◌, Bool, true, false, cond, eqb, List, [], ◌∷◌, ◌++◌, length, take, drop, Some, None, Option, sym, refl, ap, ◌∙◌, arith}
use Rattle.std.proofs.lemmas.List.{take_at, drop_at, drop-drop, length-append}
use Rattle.std.proofs.lemmas.Bool.{eq-eqb, eqb-true, cond-true}
use Rattle.octets.specs.Numbers.{bytes_of, number_of, Bytes}
use Rattle.octets.specs.Places.{part}
use Rattle.octets.proofs.Laws.{number_back, bytes_back}
use Rattle.octets.proofs.Parts.{part_whole, part_join, part_back}
use Rattle.messages.specs.Contents.{Content, add, fulfil, fail, signed, revoked, fee, reestablish, type_of, fields_of, message_bytes, Fits}
use Rattle.messages.specs.Reading.{number_at, whole, read_fields, read_message}

-- Fields of the right length are taken as they are.
taken : (long : ℕ) (fields : List ℕ) (read m : Content) → length fields ≡ long → read ≡ m → whole long fields read ≡ Some m
taken long fields read m e same = cond-true (eqb (length fields) long) (Some read) None (eq-eqb (length fields) long e) ∙ ap Some same

-- An add's fields stand where its reader looks, whatever the width of its amount.
module _ (id : ℕ) (amount value : List ℕ) (expiry width : ℕ) (wide : length amount ≡ width) (long : length value ≡ 32) where
  abbrev laid : List ℕ
  laid = fields_of (add id amount value expiry)

  laid_long : length laid ≡ 38 + width
  laid_long = simp length-append (omega arith)

  behind_amount : drop (2 + width) laid ≡ value ++ bytes_of 4 expiry
  behind_amount = sym (drop-drop width 2 laid) ∙ drop_at amount (value ++ bytes_of 4 expiry) width wide

  value_stands : part (2 + width) 32 laid ≡ value
  value_stands = ap (take 32) behind_amount ∙ take_at value (bytes_of 4 expiry) 32 long

  expiry_stands : part (34 + width) 4 laid ≡ bytes_of 4 expiry
  expiry_stands =
      let at : 34 + width ≡ 2 + width + 32 = omega arith in
      ap (λ n. part n 4 laid) at
      ∙ ap (take 4) (sym (drop-drop 32 (2 + width) laid) ∙ ap (drop 32) behind_amount ∙ drop_at value (bytes_of 4 expiry) 32 long)

-- What is written reads back.
pub reads_back : (width : ℕ) (m : Content) → Fits width m → read_message width (message_bytes m) ≡ Some m
unfolding read_message read_fields
reads_back width (add id amount value expiry) h =
    taken (38 + width) (fields_of (add id amount value expiry)) _ _ (laid_long id amount value expiry width h.1 h.2)
    (λ i. add (number_back 2 id h.0 i) (take_at amount (value ++ bytes_of 4 expiry) width h.1 i)
    (value_stands id amount value expiry width h.1 h.2 i)
    ((ap number_of (expiry_stands id amount value expiry width h.1 h.2) ∙ number_back 4 expiry h.3) i))
reads_back width (fulfil id key) h =
    taken 34 (fields_of (fulfil id key)) _ _ (let l = h.1 in omega arith) (λ i. fulfil (number_back 2 id h.0 i) (part_whole key 32 h.1 i))
reads_back width (fail id) h = taken 2 (fields_of (fail id)) _ _ refl (ap fail (number_back 2 id h))
reads_back width (signed signature) h = taken 32 signature _ _ h (ap signed (part_whole signature 32 h))
reads_back width (revoked secret point) h =
    taken 64 (secret ++ point) _ _ (length-append secret point ∙ (λ i. h.0 i + h.1 i))
    (λ i. revoked (take_at secret point 32 h.0 i) ((ap (take 32) (drop_at secret point 32 h.0) ∙ part_whole point 32 h.1) i))
reads_back width (fee rate) h = taken 4 (fields_of (fee rate)) _ _ refl (ap fee (number_back 4 rate h))
reads_back width (reestablish commitment revocation) h =
    taken 16 (fields_of (reestablish commitment revocation)) _ _ refl (λ i. reestablish (number_back 8 commitment h.0 i) (number_back 8 revocation h.1 i))

-- What was taken had the right length.
was_whole : (long : ℕ) (fields : List ℕ) (read m : Content) → whole long fields read ≡ Some m → (length fields ≡ long) × (read ≡ m)
was_whole long fields read m e = by (eqb (length fields) long) refl e
  where
    by : (b : Bool) → eqb (length fields) long ≡ b → cond b (Some read) None ≡ Some m → (length fields ≡ long) × (read ≡ m)
    by true t e = (eqb-true (length fields) long t, cc)
    by false t e = absurd (let z : ◌≡◌ {A = ℕ} 0 1 = cc in omega arith)

-- One type after another: the one that was read, or a later one.
by_type : (type n : ℕ) (here later : Option Content) (m : Content) (P : Type 0) → (type ≡ n → here ≡ Some m → P) → (later ≡ Some m → P) → cond (eqb type n) here later ≡ Some m → P
by_type type n here later m P found other e = by (eqb type n) refl e
  where
    by : (b : Bool) → eqb type n ≡ b → cond b here later ≡ Some m → P
    by true t e = found (eqb-true type n t) e
    by false t e = other e

-- The message has the type and the fields that were read.
abbrev From : ℕ → List ℕ → Content → Type 0
From type fields m = (type_of m ≡ type) × (fields_of m ≡ fields)

-- A message that was read from whole fields has those fields, if what its reader made has.
from_whole : (type n long : ℕ) (fields : List ℕ) (read m : Content) → type ≡ n → type_of read ≡ n → (length fields ≡ long → fields_of read ≡ fields) → whole long fields read ≡ Some m → From type fields m
from_whole type n long fields read m is has gives e =
    let w = was_whole long fields read m e in
    (ap type_of (sym w.1) ∙ has ∙ sym is, ap fields_of (sym w.1) ∙ gives w.0)

module _ (width : ℕ) (fields : List ℕ) (each : Bytes fields) where
  number_stands : (at n : ℕ) → at + n ≤ length fields → bytes_of n (number_at at n fields) ≡ part at n fields
  number_stands = part_back fields each

  add_fields : length fields ≡ 38 + width → bytes_of 2 (number_at 0 2 fields) ++ (part 2 width fields ++ (part (2 + width) 32 fields ++ bytes_of 4 (number_at (34 + width) 4 fields))) ≡ fields
  add_fields l =
      (λ i. number_stands 0 2 (omega arith) i ++ (part 2 width fields ++ (part (2 + width) 32 fields ++ number_stands (34 + width) 4 (omega arith) i)))
      ∙ ap (λ t. part 0 2 fields ++ (part 2 width fields ++ t)) (part_join fields (2 + width) 32 (34 + width) 4 (omega arith))
      ∙ ap (λ t. part 0 2 fields ++ t) (part_join fields 2 width (2 + width) 36 refl)
      ∙ part_join fields 0 2 2 (width + 36) refl
      ∙ part_whole fields (2 + (width + 36)) (omega arith)

  fulfil_fields : length fields ≡ 34 → bytes_of 2 (number_at 0 2 fields) ++ part 2 32 fields ≡ fields
  fulfil_fields l = ap (λ t. t ++ part 2 32 fields) (number_stands 0 2 (omega arith)) ∙ part_join fields 0 2 2 32 refl ∙ part_whole fields 34 l

  revoked_fields : length fields ≡ 64 → part 0 32 fields ++ part 32 32 fields ≡ fields
  revoked_fields l = part_join fields 0 32 32 32 refl ∙ part_whole fields 64 l

  reestablish_fields : length fields ≡ 16 → bytes_of 8 (number_at 0 8 fields) ++ bytes_of 8 (number_at 8 8 fields) ≡ fields
  reestablish_fields l = (λ i. number_stands 0 8 (omega arith) i ++ number_stands 8 8 (omega arith) i) ∙ part_join fields 0 8 8 8 refl ∙ part_whole fields 16 l

  fields_back : (type : ℕ) (m : Content) → read_fields width type fields ≡ Some m → From type fields m
  unfolding read_fields
  fields_back type m =
      by_type type 128 _ _ m _ (λ t. from_whole type 128 _ fields _ m t refl add_fields)
      (by_type type 130 _ _ m _ (λ t. from_whole type 130 34 fields _ m t refl fulfil_fields)
      (by_type type 131 _ _ m _ (λ t. from_whole type 131 2 fields _ m t refl (λ l. number_stands 0 2 (omega arith) ∙ part_whole fields 2 l))
      (by_type type 132 _ _ m _ (λ t. from_whole type 132 32 fields _ m t refl (part_whole fields 32))
      (by_type type 133 _ _ m _ (λ t. from_whole type 133 64 fields _ m t refl revoked_fields)
      (by_type type 134 _ _ m _ (λ t. from_whole type 134 4 fields _ m t refl (λ l. number_stands 0 4 (omega arith) ∙ part_whole fields 4 l))
      (by_type type 136 _ _ m _ (λ t. from_whole type 136 16 fields _ m t refl reestablish_fields)
      (λ e. absurd (let z : ◌≡◌ {A = ℕ} 0 1 = cc in omega arith))))))))

-- What is read, written again, gives the same bytes.
pub bytes_back_again : (width : ℕ) (bs : List ℕ) (m : Content) → Bytes bs → read_message width bs ≡ Some m → message_bytes m ≡ bs
unfolding read_message
bytes_back_again width [] m each e = absurd (let z : ◌≡◌ {A = ℕ} 0 1 = cc in omega arith)
bytes_back_again width (high ∷ []) m each e = absurd (let z : ◌≡◌ {A = ℕ} 0 1 = cc in omega arith)
bytes_back_again width (high ∷ (low ∷ fields)) m each e =
    let type : List ℕ = high ∷ low ∷ [] in
    let back = fields_back width fields (λ i. each (suc (suc i))) (number_of type) m e in
    (λ i. bytes_of 2 (back.0 i) ++ back.1 i) ∙ ap (λ t. t ++ fields) (bytes_back type two)
  where
    two : Bytes (high ∷ low ∷ [])
    two zero = each 0
    two (suc zero) = each 1
    two (suc (suc i)) = omega arith
