use Rattle.std.proofs.Common.{◌≡◌, map, take}
use Rattle.flow_folder_page.specs.Lines.{name_in_step}
use Rattle.flow_folder_page.proofs.lines.step_names.Given as goal

abbrev pub invariant-loop-step : goal.invariant-loop-step
invariant-loop-step l = l.names.items ≡ map name_in_step (take l.step-index l.steps)
