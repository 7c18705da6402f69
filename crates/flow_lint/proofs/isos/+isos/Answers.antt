use Rattle.std.proofs.Common.{refl, map}
use Rattle.flow_form.specs.Form.{shape_of, shapes}
use Rattle.flow_lint.specs.Goals.{lone_isos, lone_isos_in}
use Rattle.flow_text.proofs.Pushed.{goes_on, all_put}
use Rattle.flow_lint.proofs.isos.+isos.Goals as goal

pub mark_isos_in-loop-form-preserved : goal.mark_isos_in-loop-form-preserved
mark_isos_in-loop-form-preserved t c =
    goes_on (λ fs. lone_isos_in c.args.workflow.now.events (shapes (map shape_of fs))) _ c.loop-form.form-index c.form-item.result c.loop-form.marks.items c.mark_isos.new.marks.items
    (lone_isos c.args.workflow.now.events (shape_of c.form-item.result)) _
    c.loop-form-test.true c.form-item.is (λ fs. refl) c.in_ok-mark_isos.ensures c.loop-form.invariant

pub mark_isos_in-returns : goal.mark_isos_in-returns
mark_isos_in-returns t c =
    all_put (λ fs. lone_isos_in c.args.workflow.now.events (shapes (map shape_of fs))) _ c.loop-form.form-index _ c.loop-form.marks.items refl c.loop-form-test.false c.loop-form.invariant
