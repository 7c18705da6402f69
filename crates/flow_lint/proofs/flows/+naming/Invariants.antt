use Rattle.std.proofs.Common.{◌≡◌, map, drop}
use Rattle.std.specs.List.{list_any}
use Rattle.std.specs.Str.{bytes_eq}
use Rattle.flow_form.specs.Form.{shape_of, shapes}
use Rattle.flow_form.specs.Names.{names_in_each}
use Rattle.flow_lint.proofs.flows.+naming.Given as goal

abbrev pub invariant-some_has-loop-form : goal.invariant-some_has-loop-form
invariant-some_has-loop-form l =
    list_any (bytes_eq l.name) (names_in_each (shapes (map shape_of (drop l.form-index l.forms)))) ≡ list_any (bytes_eq l.name) (names_in_each (shapes (map shape_of l.forms)))
