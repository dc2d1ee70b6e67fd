use Rattle.std.proofs.Common.{ℕ, List, vec_items, Vec, refl}
use Rattle.std.specs.declared.alloc.Global.{Global}
use Rattle.commands.specs.Parsing.{word, behind, Ended, IsMessage}
use Rattle.commands.proofs.Names.{sha_takes}
use Rattle.commands.proofs.Refusals.{passed_on}
use Rattle.commands.proofs.parse.parse_sha.Goals as goal

pub returns-in-err-message : goal.returns-in-err-message
returns-in-err-message c =
    let line = c.args.words.now.rest.now in
    passed_on (λ (l : List ℕ) (m : Vec ℕ Global). IsMessage (word 0 l) (vec_items m)) _ line line refl c.from-residual.result c.in-err-message.field-0.0 c.from-residual.ensures.1 c.in-err-message.ensures.value
    (λ command is. let takes = sha_takes line command is.0 is.1 in (takes.0, takes.1))

pub returns-in-err-end : goal.returns-in-err-end
returns-in-err-end c =
    let line = c.args.words.now.rest.now in
    passed_on (λ (l : List ℕ) (_ : Unit). Ended l) _ _ (behind 1 line) c.in-ok-message.ensures.rest c.from-residual-in-err-end.result c.in-err-end.field-0.0 c.from-residual-in-err-end.ensures.1 c.in-err-end.ensures
    (λ command is. (tt, (sha_takes line command is.0 is.1).2))
