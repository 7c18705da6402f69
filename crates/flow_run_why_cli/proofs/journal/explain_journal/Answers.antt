use Rattle.std.proofs.Common.{inr}
use Rattle.std.proofs.lemmas.Result.{IfOk-weaker}
use Rattle.flow_form.specs.Script.{said}
use Rattle.flow_run_why_words.specs.Parts.{part_of}
use Rattle.flow_run_why_cli.specs.Journal.{TracesText}
use Rattle.flow_run_why_cli.proofs.Telling.{source_stopped}
use Rattle.flow_run_why_cli.proofs.journal.explain_journal.Goals as goal

pub returns-in-Ok : goal.returns-in-Ok
returns-in-Ok c =
    IfOk-weaker c.explain_leaves-output.result _ _ (λ output told. inr (said c.in-Ok.script, c.in-Ok.ensures.says, told)) c.explain_leaves-output.ensures

pub returns-in-Err : goal.returns-in-Err
returns-in-Err c = source_stopped (TracesText (part_of c.args.journal.now)) c.args.text.now c.args.form c.in-Err.stop c.explain_stop.result c.in-Err.ensures.stop c.explain_stop.ensures
