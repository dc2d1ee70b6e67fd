use Rattle.std.proofs.Common.{length, refl, ap, ◌∙◌, arith}
use Rattle.std.proofs.lemmas.List.{take_all}
use Rattle.commitments.specs.Headings.{log_bytes}
use Rattle.commitments.proofs.Sizes.{size_more}
use Rattle.commitments.proofs.size.log_size.Goals as goal

pub loop-update-init : goal.loop-update-init
loop-update-init g c = (λ side. refl, omega arith)

pub overflow_add-size : goal.overflow_add-size
overflow_add-size g c = let small = c.update_size-size.ensures.bound in let so_far = c.loop-update.invariant.1 in omega arith

pub loop-update-preserved : goal.loop-update-preserved
loop-update-preserved g c =
    let small = c.update_size-size.ensures.bound in
    let so_far = c.loop-update.invariant.1 in (
      λ side. size_more g.M.Money side c.args.other.now c.args.log.now c.loop-update.update-index c.loop-update.size c.update_size-size.result c.update-item.result c.loop-update-test.true c.update-item.is (c.loop-update.invariant.0 side) (c.update_size-size.ensures.value side),
      omega arith,
    )

pub returns : goal.returns
returns g c =
    let so_far = c.loop-update.invariant.1 in
    record {
      value = λ side. c.loop-update.invariant.0 side ∙ ap (λ l. length (log_bytes g.M.Money side l c.args.other.now)) (take_all c.loop-update.update-index c.args.log.now c.loop-update-test.false);
      bound = omega arith;
    }
