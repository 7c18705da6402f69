use Rattle.flow_policy_lint.proofs.ToldLemmas.{all_found}
use Rattle.flow_policy_lint.proofs.findings.lint_policy.Goals as goal

pub returns : goal.returns
returns c =
    all_found c.args.policy.now.duties c.args.users c.count_of-count.result c.args.heads.now c.args.workflow.now c.args.rules.now.finals _ c.count_of-count.ensures
    c.in_ok-untaken.ensures c.in_ok-idle_roles.ensures c.in_ok-unmet_binds.ensures c.in_ok-unmet_separates.ensures c.in_ok-stuck.ensures
