use Rattle.std.proofs.Common.{ℕ, List, ap, ◌∙◌, subst}
use Rattle.notation.specs.Lines.{later_words}
use Rattle.commands.specs.Parsing.{behind, Ended, behind_lock}
use Rattle.commands.proofs.Names.{opens_takes, behind_one}
use Rattle.commands.proofs.Refusals.{passed_on}
use Rattle.commands.proofs.parse.parse_opens.Goals as goal

pub returns-in_err-end : goal.returns-in_err-end
returns-in_err-end c =
    let line = c.args.words.now.rest.now in
    let lock = c.in_ok-lock.lock in
    let rest = c.in_ok-value.ensures.rest ∙ ap later_words (c.in_ok-key.ensures.rest ∙ ap later_words c.in_ok-lock.ensures.rest) in
    passed_on (λ (l : List ℕ) (_ : Unit). Ended l) _ _ (behind 2 (behind_lock line lock)) rest c.from_residual-in_err-end.result c.in_err-end.field-0.0 c.from_residual-in_err-end.ensures.1 c.in_err-end.ensures
    (λ command is. let takes = opens_takes line command is.0 is.1 in (tt, subst (λ l. Ended (behind 2 l)) (behind_one line takes.0 lock takes.1 c.in_ok-lock.ensures.value) takes.6))
