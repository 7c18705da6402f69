use Rattle.std.proofs.lemmas.Result.{err_from_is_err_and}
use Rattle.flow_case.specs.Givens.{said}
use Rattle.flow_case.proofs.NameSteps.{stops_at}
use Rattle.flow_case.proofs.rule_names.check_names.Goals as goal

pub returns-in_err-check_name-clause-refused : goal.returns-in_err-check_name-clause-refused
returns-in_err-check_name-clause-refused c =
    let p = err_from_is_err_and c.from_residual.result c.from_residual.ensures.1 in
    rw (p.1, p.2) (stops_at said c.args.workflow.now.events c.args.roles.now c.args.given.now c.loop-name.name-index _ c.loop-name-test.true c.loop-name.invariant _ c.in_err-check_name.ensures.refused)
