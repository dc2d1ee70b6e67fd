use Rattle.std.proofs.Common.{ℕ, List, vec_items, Vec, ap, ◌∙◌}
use Rattle.std.specs.declared.alloc.Global.{Global}
use Rattle.notation.specs.Lines.{later_words}
use Rattle.commands.specs.Parsing.{word, behind, Ended, IsMessage}
use Rattle.commands.proofs.Names.{read_takes}
use Rattle.commands.proofs.Refusals.{passed_on}
use Rattle.commands.proofs.parse.parse_read.Goals as goal

pub returns-in_err-message : goal.returns-in_err-message
returns-in_err-message c =
    let line = c.args.words.now.rest.now in
    passed_on (λ (l : List ℕ) (m : Vec ℕ Global). IsMessage (word 0 l) (vec_items m)) _ _ (behind 1 line) c.in_ok-channel.ensures.rest c.from_residual-in_err-message.result c.in_err-message.field-0.0 c.from_residual-in_err-message.ensures.1 c.in_err-message.ensures.value
    (λ command is. let takes = read_takes line command is.0 is.1 in (takes.1, takes.3))

pub returns-in_err-end : goal.returns-in_err-end
returns-in_err-end c =
    let line = c.args.words.now.rest.now in
    let rest = c.in_ok-message.ensures.rest ∙ ap later_words c.in_ok-channel.ensures.rest in
    passed_on (λ (l : List ℕ) (_ : Unit). Ended l) _ _ (behind 2 line) rest c.from_residual-in_err-end.result c.in_err-end.field-0.0 c.from_residual-in_err-end.ensures.1 c.in_err-end.ensures
    (λ command is. (tt, (read_takes line command is.0 is.1).4))
