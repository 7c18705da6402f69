use Rattle.std.proofs.Common.{◌≡◌, ◌++◌, drop, map}
use Rattle.flow_form.specs.Form.{shape_of, shapes}
use Rattle.flow_grammar.specs.Roles.{roles_in_each}
use Rattle.flow_text.specs.Named.{roles_of}
use Rattle.flow_text.proofs.named.+forms.Given as goal

abbrev pub invariant-list_forms-loop-form : goal.invariant-list_forms-loop-form
invariant-list_forms-loop-form l = roles_of l.list.items ++ roles_in_each (shapes (map shape_of (drop l.form-index l.forms))) ≡ roles_of l.initial.list.items ++ roles_in_each (shapes (map shape_of l.forms))
