use Rattle.std.proofs.Common.{Ok, refl, inr}
use Rattle.flow_run_why_cli.specs.Journal.{answer_of_checked}
use Rattle.flow_run_why_cli.proofs.journal.trace_leaves.Goals as goal

pub returns-in_ok-tell_leaves-in-Ok : goal.returns-in_ok-tell_leaves-in-Ok
returns-in_ok-tell_leaves-in-Ok c =
    let (checked, tells, told) = c.in_ok-tell_leaves-in-Ok.ensures in
    (answer_of_checked checked, inr (c.in-Ok.compiled, c.in-Ok.ensures.compiled, (checked, tells, refl)), told)
