use Rattle.std.proofs.Common.{◌≡◌, take}
use Rattle.flow_case.specs.CaseRun.{case_with}
use Rattle.flow_case.proofs.case_run.CaseRun.follow.Given as goal

abbrev pub invariant-loop-index : goal.invariant-loop-index
invariant-loop-index l = l.self ≡ case_with l.initial.self (take l.index l.entries)
