use Rattle.std.proofs.Common.{◌≡◌, ◌-◌, length, take, drop, Some, None, sym, ap, subst, ◌∙◌, rules, tests, arith}
use Rattle.std.proofs.lemmas.Iterator.{YieldsList-from_slice}
use Rattle.std.proofs.lemmas.Iterator.Search.{position_from_yields_List}
use Rattle.std.proofs.lemmas.List.{take_rest}
use Rattle.notation.specs.Lines.{front, is_blank, is_letter, trimmed, Splits}
use Rattle.notation.proofs.Fronts.{searched, searched_or_end, to_letter, has_letter, no_letter}
use Rattle.notation.proofs.lines.split_word.Goals as goal

pub returns-in_err-start : goal.returns-in_err-start
returns-in_err-start c =
    let line = c.args.line.now in
    let found = position_from_yields_List is_letter _ _ c.position.result c.position.ensures.ran (YieldsList-from_slice line cc) (λ x b q k. search (rules, tests)) in
    let ended = sym (to_letter line) ∙ searched is_letter line None (sym c.in_err-start.was ∙ found) in
    subst (Splits line) (sym c.from_residual.ensures) (ended, no_letter line ended)

pub returns : goal.returns
returns c =
    let line = c.args.line.now in
    let start = c.in_ok-start.start in
    let words = take (length line - start) (drop start line) in
    let found = position_from_yields_List is_letter _ _ c.position.result c.position.ensures.ran (YieldsList-from_slice line cc) (λ x b q k. search (rules, tests)) in
    let place = searched is_letter line (Some start) (sym c.in_ok-start.was ∙ found) in
    let begins : start ≡ front is_blank line = place.0 ∙ to_letter line in
    let whole : words ≡ trimmed line = take_rest line start ∙ ap (λ n. drop n line) begins in
    let next = position_from_yields_List is_blank _ _ c.position-2.result c.position-2.ensures.ran (YieldsList-from_slice words cc) (λ x b q k. search (rules, tests)) in
    let ends : c.unwrap_or-end.result ≡ front is_letter words = c.unwrap_or-end.ensures ∙ searched_or_end is_blank words c.position-2.result next in (
      omega arith,
      has_letter line (omega arith),
      c.split_at.ensures.front ∙ ap (λ n. take n words) ends ∙ ap (λ w. take (front is_letter w) w) whole,
      c.split_at.ensures.back ∙ ap (λ n. drop n words) ends ∙ ap (λ w. drop (front is_letter w) w) whole,
    )
