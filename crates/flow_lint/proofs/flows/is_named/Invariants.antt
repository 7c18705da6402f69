use Rattle.std.proofs.Common.{◌≡◌, drop}
use Rattle.std.specs.List.{flat_map, list_any}
use Rattle.std.specs.Str.{bytes_eq}
use Rattle.flow_form.specs.Names.{names_in}
use Rattle.flow_lint.specs.Goals.{shapes_of}
use Rattle.flow_lint.proofs.flows.is_named.Given as goal

abbrev pub invariant-loop-goal : goal.invariant-loop-goal
invariant-loop-goal l =
    list_any (bytes_eq l.name) (flat_map names_in (shapes_of (drop l.goal-index l.goals))) ≡ list_any (bytes_eq l.name) (flat_map names_in (shapes_of l.goals))
