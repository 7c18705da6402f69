use Rattle.std.proofs.Common.{◌≡◌, ◌++◌, take, map}
use Rattle.flow_form.specs.Form.{shape_of, shapes}
use Rattle.flow_form.specs.Names.{names_in_each}
use Rattle.flow_expand.specs.Calls.{calls_in}
use Rattle.flow_expand.proofs.calls.+calling.Given as goal

abbrev pub invariant-push_all_calls-loop-form : goal.invariant-push_all_calls-loop-form
invariant-push_all_calls-loop-form l =
    l.calls.items ≡ l.fn.calls.items ++ calls_in l.directory.flows (names_in_each (shapes (map shape_of (take l.form-index l.forms))))
