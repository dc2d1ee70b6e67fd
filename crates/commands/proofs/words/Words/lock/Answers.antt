use Rattle.std.proofs.Common.{◌≡◌, codes, rules}
use Rattle.std.proofs.lemmas.Slice.Eq.{text_from_reads}
use Rattle.commands.proofs.words.Words.lock.Goals as goal

pub returns-in_err-number-in-group-2-clause-value : goal.returns-in_err-number-in-group-2-clause-value
returns-in_err-number-in-group-2-clause-value c =
    let group : c.in_ok-word.field-0.now ≡ codes "group" = search (rules, text_from_reads) in
    search rules

pub returns-in_err-number-in-group-3-clause-value : goal.returns-in_err-number-in-group-3-clause-value
returns-in_err-number-in-group-3-clause-value c =
    let group : c.in_ok-word.field-0.now ≡ codes "group" = search (rules, text_from_reads) in
    search rules

pub returns-in_ok-number-in-group-3-clause-value : goal.returns-in_ok-number-in-group-3-clause-value
returns-in_ok-number-in-group-3-clause-value c =
    let group : c.in_ok-word.field-0.now ≡ codes "group" = search (rules, text_from_reads) in
    search rules
