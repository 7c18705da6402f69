use Rattle.std.proofs.Common.{◌≡◌, take, drop}
use Rattle.std.specs.List.{find}
use Rattle.flow_fault.specs.Near.{is_near}
use Rattle.flow_run_why_words.proofs.leaves.near_event.Given as goal

abbrev pub invariant-loop-name : goal.invariant-loop-name
invariant-loop-name l = find (λ name. is_near name l.word) l.workflow.events ≡ find (λ name. is_near name l.word) (drop l.name-index l.workflow.events)
