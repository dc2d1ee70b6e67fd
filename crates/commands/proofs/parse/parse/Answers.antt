use Rattle.std.proofs.Common.{sym, subst}
use Rattle.commands.specs.Parsing.{Parsed}
use Rattle.commands.proofs.Refusals.{declined}
use Rattle.commands.proofs.parse.parse.Goals as goal

pub returns-in_err-command : goal.returns-in_err-command
returns-in_err-command c =
    let line = c.without_return-line.result.now in
    subst (λ l. Parsed l c.from_residual.result) c.without_return-line.ensures
    (declined line c.from_residual.result c.in_err-command.field-0.0 c.from_residual.ensures.1 (sym c.if-is_passed_over.ensures) c.in_err-command.ensures)
