use Rattle.std.proofs.Common.{◌≡◌, ℕ, List, codes, sym, ap, ◌∙◌, subst, inl, inr, rules, arith}
use Rattle.std.proofs.lemmas.Slice.Eq.{text_from_reads}
use Rattle.notation.specs.Lines.{first_word, later_words}
use Rattle.commands.specs.Parsing.{behind, Ended, behind_lock}
use Rattle.commands.proofs.Names.{carry_takes, behind_one}
use Rattle.commands.proofs.Refusals.{passed_on}
use Rattle.commands.proofs.parse.parse_carry.Goals as goal

pub returns-in_err-end : goal.returns-in_err-end
returns-in_err-end c =
    let line = c.args.words.now.rest.now in
    let lock = c.in_ok-lock.lock in
    let rest = c.in_ok-tweak.ensures.rest ∙ ap later_words (c.in_ok-carried.ensures.rest ∙ ap later_words (c.in_ok-what.ensures.rest ∙ ap later_words c.in_ok-lock.ensures.rest)) in
    passed_on (λ (l : List ℕ) (_ : Unit). Ended l) _ _ (behind 3 (behind_lock line lock)) rest c.from_residual-in_err-end.result c.in_err-end.field-0.0 c.from_residual-in_err-end.ensures.1 c.in_err-end.ensures
    (λ command is. let takes = carry_takes line command is.0 is.1 in (tt, subst (λ l. Ended (behind 3 l)) (behind_one line takes.0 lock takes.1 c.in_ok-lock.ensures.value) takes.6))

pub returns-in_default : goal.returns-in_default
returns-in_default c =
    let line = c.args.words.now.rest.now in
    let lock = c.in_ok-lock.lock in
    let what = c.in_ok-what.what.now in
    let no_key : what ≡ codes "key" → ⊥ = λ e. grind (arith, e) in
    let no_value : what ≡ codes "value" → ⊥ = λ e. grind (arith, e) in
    inr (λ command is.
    let takes = carry_takes line command is.0 is.1 in
    let here = c.in_ok-what.ensures.value.0 ∙ ap first_word (c.in_ok-lock.ensures.rest ∙ sym (behind_one line takes.0 lock takes.1 c.in_ok-lock.ensures.value)) in
    elim takes.7 [ inl key ↦ no_key (here ∙ key) | inr value ↦ no_value (here ∙ value) ])

pub returns-in-value : goal.returns-in-value
returns-in-value c =
    let what = c.in_ok-what.what.now in
    let value : what ≡ codes "value" = text_from_reads what (codes "value") (omega arith) (omega arith, (omega arith, (omega arith, (omega arith, (omega arith, tt))))) in
    search rules
