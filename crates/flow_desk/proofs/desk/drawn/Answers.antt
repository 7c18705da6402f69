use Rattle.std.proofs.Common.{◌≡◌, ℕ, List, Option, None, Some, Bor, sym, subst, rules}
use Rattle.std.specs.Option.{option_map}
use Rattle.std.proofs.lemmas.Result.{IfOk-weaker}
use Rattle.flow_form.specs.Script.{said}
use Rattle.flow_desk.specs.Desk.{IsDrawnOf}
use Rattle.flow_desk.proofs.desk.drawn.Goals as goal

pub returns-in-None-clause-drawn : goal.returns-in-None-clause-drawn
returns-in-None-clause-drawn c =
    let same : option_map (λ (file : Bor (List ℕ)). file.now) c.args.run ≡ None = search rules in
    IfOk-weaker c.draw_workflow.result _ _
    (λ picture is. (
      said c.in-Ok.script,
      c.in-Ok.ensures.says,
      subst (λ (o : Option (List ℕ)). IsDrawnOf c.args.sheet.now (said c.in-Ok.script) o c.args.notes.now picture.items) (sym same) is,
    )) c.draw_workflow.ensures.drawn

pub returns-in-Some-clause-drawn : goal.returns-in-Some-clause-drawn
returns-in-Some-clause-drawn c =
    let same : option_map (λ (file : Bor (List ℕ)). file.now) c.args.run ≡ Some c.in-Some.file.now = search rules in
    IfOk-weaker c.draw_run.result _ _
    (λ picture is. (
      said c.in-Ok.script,
      c.in-Ok.ensures.says,
      subst (λ (o : Option (List ℕ)). IsDrawnOf c.args.sheet.now (said c.in-Ok.script) o c.args.notes.now picture.items) (sym same) is,
    )) c.draw_run.ensures.drawn
