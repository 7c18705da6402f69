use Rattle.std.proofs.Common.{refl, map}
use Rattle.flow_form.specs.Form.{shape_of, shapes}
use Rattle.flow_lint.specs.Goals.{idle_nops, idle_nops_in}
use Rattle.flow_text.proofs.Pushed.{goes_on, all_put}
use Rattle.flow_lint.proofs.nops.+nops.Goals as goal

pub mark_nops_in-loop-form-preserved : goal.mark_nops_in-loop-form-preserved
mark_nops_in-loop-form-preserved t c =
    goes_on (λ fs. idle_nops_in c.args.part (shapes (map shape_of fs))) _ c.loop-form.form-index c.form-item.result c.loop-form.marks.items c.mark_nops.new.marks.items
    (idle_nops c.args.part (shape_of c.form-item.result)) _
    c.loop-form-test.true c.form-item.is (λ fs. refl) c.in_ok-mark_nops.ensures c.loop-form.invariant

pub mark_nops_in-returns : goal.mark_nops_in-returns
mark_nops_in-returns t c =
    all_put (λ fs. idle_nops_in c.args.part (shapes (map shape_of fs))) _ c.loop-form.form-index _ c.loop-form.marks.items refl c.loop-form-test.false c.loop-form.invariant
