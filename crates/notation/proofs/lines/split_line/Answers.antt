use Rattle.std.proofs.Common.{◌+◌, take, drop, Some, None, sym, ap, ◌∙◌, arith}
use Rattle.std.proofs.lemmas.List.{take_all, drop_all, take_rest, length-take, length-drop}
use Rattle.notation.specs.Lines.{front, is_in_line}
use Rattle.notation.proofs.Fronts.{first_found}
use Rattle.notation.proofs.lines.split_line.Goals as goal

pub returns-in-Some : goal.returns-in-Some
returns-in-Some c =
    let text = c.args.text.now in
    let place = first_found 10 text c.memchr.result (Some c.in-Some.end) c.in-Some.is c.memchr.ensures in
    record {
      line = ap (λ n. take n text) place.0;
      rest = take_rest text (c.in-Some.end + 1) ∙ ap (λ n. drop (n + 1) text) place.0;
      shorter = λ some. simp (length-take, length-drop) (omega arith);
    }

pub returns-in-None : goal.returns-in-None
returns-in-None c =
    let text = c.args.text.now in
    let over = first_found 10 text c.memchr.result None c.in-None.is c.memchr.ensures in
    record {
      line = sym (take_all (front is_in_line text) text (omega arith));
      rest = sym (drop_all (front is_in_line text + 1) text (omega arith));
      shorter = λ some. omega arith;
    }
