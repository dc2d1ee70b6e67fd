use Rattle.std.proofs.Common.{rules, tests, ◌∙◌}
use Rattle.std.proofs.lemmas.Iterator.{YieldsList-from_slice}
use Rattle.std.proofs.lemmas.Iterator.Search.{all_from_yields_List}
use Rattle.notation.specs.Lines.{is_blank}
use Rattle.notation.proofs.Fronts.{all_is}
use Rattle.notation.proofs.lines.is_empty.Goals as goal

pub returns : goal.returns
returns c =
    let line = c.args.line.now in
    all_from_yields_List is_blank _ _ c.all.result c.all.ensures.ran (YieldsList-from_slice line cc) (λ x b q k. search (rules, tests)) ∙ all_is is_blank line
