use Rattle.std.proofs.Common.{◌≡◌, None, Ok, Err, Result, MatchResult, sym, subst, ◌∙◌}
use Rattle.std.specs.Result.{result_ok}
use Rattle.std.proofs.lemmas.Fmt.{IsAscii-from_digits}
use Rattle.std.proofs.lemmas.Str.{IsUtf8-from_ascii}
use Rattle.notation.specs.Numbers.{ReadsNumber}
use Rattle.notation.proofs.number.number.Goals as goal

-- The fault of what could not be read.
fault_of : {T E : Type 0} (Text : T → Type 0) (Fault : E → Type 0) (r : Result T E) → result_ok r ≡ None → MatchResult r Text Fault → (e : E) × Fault e
fault_of Text Fault (Ok t) none is = cc
fault_of Text Fault (Err e) none is = (e, is)

pub returns-in_err-ok-in_default : goal.returns-in_err-ok-in_default
returns-in_err-ok-in_default c =
    let word = c.args.word.now in
    let fault = fault_of _ _ c.from_utf8.result (sym c.ok.ensures.value ∙ c.in_err-ok-in_default.was) c.from_utf8.ensures.cases in
    subst (ReadsNumber word) (sym c.from_residual.ensures) (λ n. fault.1.0 (IsUtf8-from_ascii word (IsAscii-from_digits word n.0.1)))
