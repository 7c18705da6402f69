use Rattle.std.proofs.Common.{◌≡◌, ◌++◌, drop, map}
use Rattle.flow_form.specs.Form.{shape_of, shapes}
use Rattle.flow_lint.specs.Goals.{idle_nops_in}
use Rattle.flow_lint.proofs.nops.+nops.Given as goal

abbrev pub invariant-mark_nops_in-loop-form : goal.invariant-mark_nops_in-loop-form
invariant-mark_nops_in-loop-form l =
    l.marks.items ++ idle_nops_in l.part (shapes (map shape_of (drop l.form-index l.forms))) ≡ l.initial.marks.items ++ idle_nops_in l.part (shapes (map shape_of l.forms))
