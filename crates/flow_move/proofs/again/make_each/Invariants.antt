use Rattle.std.proofs.Common.{◌≡◌, List, take}
use Rattle.flow_model.specs.declared.history.Entry.{Entry}
use Rattle.flow_case.specs.CaseRun.{case_with}
use Rattle.flow_move.specs.Moves.{AreMoved}
use Rattle.flow_move.proofs.again.make_each.Given as goal

abbrev pub invariant-loop-place : goal.invariant-loop-place
invariant-loop-place l =
    (made : List Entry) × AreMoved l.names l.initial.run (take l.place l.history) made × (l.run ≡ case_with l.initial.run made)
