use Rattle.std.proofs.Common.{◌≡◌, ◌++◌, drop, map}
use Rattle.flow_form.specs.Form.{shape_of, shapes}
use Rattle.flow_lint.specs.Goals.{lone_isos_in}
use Rattle.flow_lint.proofs.isos.+isos.Given as goal

abbrev pub invariant-mark_isos_in-loop-form : goal.invariant-mark_isos_in-loop-form
invariant-mark_isos_in-loop-form l =
    l.marks.items ++ lone_isos_in l.workflow.events (shapes (map shape_of (drop l.form-index l.forms)))
    ≡ l.initial.marks.items ++ lone_isos_in l.workflow.events (shapes (map shape_of l.forms))
