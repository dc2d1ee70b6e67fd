use Rattle.std.proofs.Common.{◌+◌, ◌||◌, drop, sym, ap, ◌∙◌}
use Rattle.std.specs.List.{list_any}
use Rattle.logs.specs.Logs.{means}
use Rattle.logs.specs.Resolutions.{resolves}
use Rattle.logs.proofs.Fronts.{next_update, no_update}
use Rattle.logs.proofs.scan.has.Goals as goal

pub loop-update-preserved : goal.loop-update-preserved
loop-update-preserved g c =
    let kind = g.M.Money in
    let log = c.args.log.now in
    let i = c.loop-update.update-index in
    let test = resolves c.args.way c.args.id in
    let next = next_update kind log i c.update-item.result c.loop-update-test.true c.update-item.is in
    ap (λ b. b || list_any test (means kind (drop (i + 1) log))) c.if-resolves.ensures ∙ ap (list_any test) (sym next) ∙ c.loop-update.invariant

pub returns-then-resolves : goal.returns-then-resolves
returns-then-resolves g c =
    let kind = g.M.Money in
    let log = c.args.log.now in
    let i = c.loop-update.update-index in
    let test = resolves c.args.way c.args.id in
    let next = next_update kind log i c.update-item.result c.loop-update-test.true c.update-item.is in
    ap (λ b. b || list_any test (means kind (drop (i + 1) log))) c.if-resolves.ensures ∙ ap (list_any test) (sym next) ∙ c.loop-update.invariant

pub returns : goal.returns
returns g c =
    let test = resolves c.args.way c.args.id in
    ap (list_any test) (sym (no_update g.M.Money c.args.log.now c.loop-update.update-index c.loop-update-test.false)) ∙ c.loop-update.invariant
