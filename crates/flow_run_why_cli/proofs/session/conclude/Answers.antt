use Rattle.std.proofs.Common.{◌∙◌}
use Rattle.flow_run_why_cli.proofs.Telling.{driven_told}
use Rattle.flow_run_why_cli.proofs.session.conclude.Goals as goal

pub returns : goal.returns
returns g c =
    driven_told c.args.form c.core-2.result.now _ c.status_of.result c.verdict_of-verdict.result _ c.verdict_of-verdict.ensures.verdict c.status_of.ensures
    (c.core-2.ensures ∙ c.look_ahead.ensures.run)
