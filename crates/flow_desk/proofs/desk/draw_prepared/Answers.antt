use Rattle.std.proofs.Common.{◌≡◌, inr, ap, subst, ◌∙◌}
use Rattle.std.specs.Prelude.{IfErr}
use Rattle.std.proofs.lemmas.Result.{IfErr-weaker}
use Rattle.flow_form.specs.Script.{said}
use Rattle.flow_workflow.specs.Definition.{Definition}
use Rattle.flow_core.specs.Run.{Run}
use Rattle.flow_view.specs.Texts.{box_texts}
use Rattle.flow_desk.specs.Desk.{IsNotDepicted}
use Rattle.flow_desk.specs.Noted.{noted_texts}
use Rattle.flow_desk.proofs.desk.draw_prepared.Goals as goal

pub returns-in-Ok-clause-stop : goal.returns-in-Ok-clause-stop
returns-in-Ok-clause-stop c =
    let s = said c.args.script in
    let w = c.args.prepared.workflow in
    let same : c.workflow.result.now ≡ w = c.workflow.ensures ∙ ap (λ (r : Run). r.definition) c.in-Ok.ensures.run.3.run_is in
    IfErr-weaker c.depict-text.result _ _ (λ stop is. (w, c.requires.0, inr is))
    (subst (λ (d : Definition). IfErr c.depict-text.result (IsNotDepicted s d (noted_texts c.args.notes.now (box_texts d)))) same c.depict-text.ensures.stop)
