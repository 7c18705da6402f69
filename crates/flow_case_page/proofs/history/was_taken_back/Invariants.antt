use Rattle.std.proofs.Common.{◌≡◌, drop}
use Rattle.flow_case_page.specs.History.{was_taken_back}
use Rattle.flow_case_page.proofs.history.was_taken_back.Given as goal

abbrev pub invariant-loop-one : goal.invariant-loop-one
invariant-loop-one l = was_taken_back l.taken l.place ≡ was_taken_back (drop l.one-index l.taken) l.place
