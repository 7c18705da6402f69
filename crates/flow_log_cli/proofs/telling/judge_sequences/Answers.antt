use Rattle.std.proofs.Common.{IfOk, subst}
use Rattle.flow_workflow.specs.Definition.{Definition}
use Rattle.flow_conformance.specs.Judged.{AreFindings}
use Rattle.flow_log_cli.specs.Judging.{IsVerdict}
use Rattle.flow_log_cli.proofs.telling.judge_sequences.Goals as goal

pub returns : goal.returns
returns g c =
    subst (λ (d : Definition). IfOk c.judge_all.result (λ found. AreFindings (IsVerdict d) c.args.sequences.now found.items)) c.new-judge.ensures c.judge_all.ensures
