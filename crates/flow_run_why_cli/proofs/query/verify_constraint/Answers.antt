use Rattle.std.proofs.Common.{◌≡◌, ◌≤◌, length, rules}
use Rattle.flow_verify.specs.declared.refusal.VerifyRefusal.TheVariants.{NoRule}
use Rattle.flow_run_why_cli.proofs.Queries.{found_needed, none_needed}
use Rattle.flow_run_why_cli.proofs.query.verify_constraint.Goals as goal

pub returns-in_ok-constraint_text-in-Ok : goal.returns-in_ok-constraint_text-in-Ok
returns-in_ok-constraint_text-in-Ok c =
    let none : ¬ (length c.args.workflow.now.rules ≤ c.args.index) = search rules in
    found_needed c.args.form c.args.workflow.now c.args.index c.in-Ok.redundancy
    (record { status = c.status_of_redundancy.result; text = c.in_ok-constraint_text-in-Ok.field-0 }) none
    c.in-Ok.ensures.within c.in-Ok.ensures.told (record { status_is = c.status_of_redundancy.ensures; begins = c.in_ok-constraint_text-in-Ok.ensures })

pub returns-in-Err : goal.returns-in-Err
returns-in-Err c =
    let past : length c.args.workflow.now.rules ≤ c.args.index → c.in-Err.refusal ≡ NoRule c.args.index = search rules in
    none_needed c.args.form c.args.workflow.now c.args.index c.in-Err.refusal past c.in-Err.ensures.refused c.question_stop.result c.question_stop.ensures
