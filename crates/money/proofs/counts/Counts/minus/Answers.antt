use Rattle.std.proofs.Common.{Some, None, cond, ◌-◌, sym, ap, ◌∙◌, arith}
use Rattle.money.specs.Amounts.{row}
use Rattle.money.proofs.Rows.{all_covered}
use Rattle.money.proofs.counts.Counts.minus.Goals as goal

pub invariant_of-result : goal.invariant_of-result
invariant_of-result g c =
    record {
      ok = (omega arith, (λ k. let most = c.args.self.now.ok.1 k in let less = ap (λ f. f k) c.differences.ensures in omega arith));
    }

pub returns-then-covers : goal.returns-then-covers
returns-then-covers g c =
    let f = row c.args.self.now.counts in
    let h = row c.args.other.now.counts in
    let tested = sym (all_covered g.row.N c.args.self.now.counts c.args.other.now.counts (omega arith) (omega arith)) ∙ sym c.covers.ensures ∙ c.if-covers.true in
    ap Some c.differences.ensures ∙ sym (ap (λ b. cond b (Some (λ k. f k - h k)) None) tested)

pub returns-else-covers : goal.returns-else-covers
returns-else-covers g c =
    let f = row c.args.self.now.counts in
    let h = row c.args.other.now.counts in
    let tested = sym (all_covered g.row.N c.args.self.now.counts c.args.other.now.counts (omega arith) (omega arith)) ∙ sym c.covers.ensures ∙ c.if-covers.false in
    sym (ap (λ b. cond b (Some (λ k. f k - h k)) None) tested)
