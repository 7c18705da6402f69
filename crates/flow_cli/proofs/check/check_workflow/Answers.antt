use Rattle.std.proofs.Common.{refl, ap, ◌∙◌, inr}
use Rattle.flow_findings.specs.Checking.{check_text}
use Rattle.flow_cli.specs.Finding.{consistent}
use Rattle.flow_cli.proofs.check.check_workflow.Goals as goal

pub returns : goal.returns
returns c = (
  consistent c.args.workflow.now c.in_ok-compiled.compiled.counts,
  inr (c.in_ok-compiled.compiled, c.in_ok-compiled.ensures.compiled, (c.counts.ensures.live, refl)),
  record { status_is = refl; output_is = c.in_ok-print_check.ensures ∙ ap (check_text c.args.workflow.now) c.counts.ensures.counts },
)
