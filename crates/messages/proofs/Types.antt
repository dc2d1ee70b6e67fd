-- Reading by the type: a message too short for one, a type that no message has, and the type and fields of any other.
use Rattle.std.proofs.Common.{◌≡◌, ◌≢◌, ℕ, ◌+◌, ◌*◌, ◌<◌, ◌≤◌, eqb, List, [], ◌∷◌, length, get_or, drop, None, sym, refl, ap, ◌∙◌, arith}
use Rattle.std.proofs.lemmas.Bool.{ne_eqb, cond-false}
use Rattle.messages.specs.declared.kind.Kind.{Kind}
use Rattle.messages.specs.declared.kind.Kind.TheVariants.{Add, Fulfil, Fail, Signed, Revoked, Fee, Reestablish}
use Rattle.messages.specs.Kinds.{kind_number}
use Rattle.messages.specs.Reading.{read_fields, read_message}

module _ (width type : ℕ) (fields : List ℕ) where
  pub unknown : ((kind : Kind) → type ≢ kind_number kind) → None ≡ read_fields width type fields
  unfolding read_fields
  unknown none =
      sym
      (cond-false (eqb type 128) _ _ (ne_eqb type 128 (none Add)) ∙ cond-false (eqb type 130) _ _ (ne_eqb type 130 (none Fulfil)) ∙ cond-false (eqb type 131) _ _ (ne_eqb type 131 (none Fail))
      ∙ cond-false (eqb type 132) _ _ (ne_eqb type 132 (none Signed)) ∙ cond-false (eqb type 133) _ _ (ne_eqb type 133 (none Revoked)) ∙ cond-false (eqb type 134) _ _ (ne_eqb type 134 (none Fee))
      ∙ cond-false (eqb type 136) _ _ (ne_eqb type 136 (none Reestablish)))

pub read_short : (width : ℕ) (bs : List ℕ) → length bs < 2 → None ≡ read_message width bs
unfolding read_message
read_short width [] h = refl
read_short width (high ∷ []) h = refl
read_short width (high ∷ (low ∷ fields)) h = absurd (omega arith)

pub read_typed : (width : ℕ) (bs : List ℕ) → 2 ≤ length bs → read_fields width (get_or bs 0 0 * 256 + get_or bs 1 0) (drop 2 bs) ≡ read_message width bs
unfolding read_message
read_typed width [] h = absurd (omega arith)
read_typed width (high ∷ []) h = absurd (omega arith)
read_typed width (high ∷ (low ∷ fields)) h =
    let weights : high * 256 + low ≡ high * 256 + (low * 1 + 0) = omega arith in
    ap (λ t. read_fields width t fields) weights
