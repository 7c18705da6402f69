use Rattle.std.proofs.lemmas.Result.{IfErr-weaker}
use Rattle.flow_form.specs.Script.{said}
use Rattle.flow_view.specs.Texts.{box_texts}
use Rattle.flow_desk.specs.Noted.{noted_texts}
use Rattle.flow_desk.proofs.Depictions.{not_depicted}
use Rattle.flow_desk.proofs.depict.view_of.Goals as goal

pub returns-clause-stop : goal.returns-clause-stop
returns-clause-stop c =
    IfErr-weaker c.placed.result _ _ (not_depicted (said c.args.script.now) c.args.workflow.now (noted_texts c.args.notes.now (box_texts c.args.workflow.now)) c.in_ok-labels.labels c.in_ok-labels.ensures) c.placed.ensures.stop
