use Rattle.std.proofs.Common.{Some, None, cond, sym, ap, ◌∙◌, arith}
use Rattle.money.specs.Amounts.{row}
use Rattle.money.proofs.Rows.{all_limited, row_within}
use Rattle.money.proofs.counts.Counts.of.Goals as goal

pub invariant_of-result : goal.invariant_of-result
invariant_of-result g c =
    let tested = sym (all_limited g.row.N 2100000000000000 c.args.counts (omega arith)) ∙ sym c.all_within.ensures ∙ c.if-all_within.true in
    record { ok = (omega arith, row_within g.row.N 2100000000000000 c.args.counts (omega arith) tested) }

pub returns-then-all_within : goal.returns-then-all_within
returns-then-all_within g c =
    let tested = sym (all_limited g.row.N 2100000000000000 c.args.counts (omega arith)) ∙ sym c.all_within.ensures ∙ c.if-all_within.true in
    sym (ap (λ b. cond b (Some (row c.args.counts)) None) tested)

pub returns-else-all_within : goal.returns-else-all_within
returns-else-all_within g c =
    let tested = sym (all_limited g.row.N 2100000000000000 c.args.counts (omega arith)) ∙ sym c.all_within.ensures ∙ c.if-all_within.false in
    sym (ap (λ b. cond b (Some (row c.args.counts)) None) tested)
