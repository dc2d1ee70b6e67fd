use Rattle.std.proofs.Common.{◌≡◌, codes, ap, ◌∙◌, inr, rules, arith}
use Rattle.std.proofs.lemmas.Slice.Eq.{text_from_reads}
use Rattle.notation.specs.Lines.{first_word}
use Rattle.commands.proofs.Names.{unnamed}
use Rattle.commands.proofs.parse.parse_command.Goals as goal

pub returns-in-sha : goal.returns-in-sha
returns-in-sha c =
    let same : c.in_ok-word.field-0.now ≡ codes "sha" = search (rules, text_from_reads) in
    search rules

pub returns-in-read : goal.returns-in-read
returns-in-read c =
    let same : c.in_ok-word.field-0.now ≡ codes "read" = search (rules, text_from_reads) in
    search rules

pub returns-in-opens : goal.returns-in-opens
returns-in-opens c =
    let w = c.in_ok-word.field-0.now in
    let same : w ≡ codes "opens" = text_from_reads w (codes "opens") (omega arith) (omega arith, (omega arith, (omega arith, (omega arith, (omega arith, tt))))) in
    search rules

pub returns-in-carry : goal.returns-in-carry
returns-in-carry c =
    let w = c.in_ok-word.field-0.now in
    let same : w ≡ codes "carry" = text_from_reads w (codes "carry") (omega arith) (omega arith, (omega arith, (omega arith, (omega arith, (omega arith, tt))))) in
    search rules

pub returns-in_default : goal.returns-in_default
returns-in_default c =
    let first = c.in_ok-word.ensures.value.0 ∙ ap first_word c.new-words.ensures in
    inr (unnamed c.args.line.now c.in_ok-word.field-0.now first (λ e. grind (arith, e)) (λ e. grind (arith, e)) (λ e. grind (arith, e)) (λ e. grind (arith, e)))
