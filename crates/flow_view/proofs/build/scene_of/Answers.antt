use Rattle.std.proofs.Common.{◌≡◌, None, List, map, ap, ◌∙◌, subst}
use Rattle.std.specs.List.{flat_map}
use Rattle.std.proofs.lemmas.Result.{IfOk-weaker, IfErr-weaker}
use Rattle.flow_model.specs.Process.{Process}
use Rattle.flow_form.specs.declared.script.Decl.{Decl}
use Rattle.flow_form.specs.Form.{shape_of}
use Rattle.flow_form.specs.Names.{flow_goal}
use Rattle.flow_form.specs.Script.{said, declared}
use Rattle.flow_goal.specs.Goal.{process_of}
use Rattle.flow_goal.specs.Labelled.{Labelled}
use Rattle.flow_view.specs.Drawn.{Sources, bodies_of, drawing, drawn, sources, whole}
use Rattle.flow_view.specs.Flows.{names_in, goals_in, sources_of}
use Rattle.flow_view.specs.Sizes.{IsRefusal}
use Rattle.flow_view.specs.Sketch.{Sketch, process_in}
use Rattle.flow_view.specs.Texts.{flow_names}
use Rattle.flow_view.proofs.DrawnLemmas.{drawn_process, same_sources}
use Rattle.flow_view.proofs.build.scene_of.Goals as goal

pub returns-clause-goal : goal.returns-clause-goal
returns-clause-goal c =
    let same = drawn_process (sources_of c.in_ok-flows.flows c.args.labels.now) (process_of c.goal-goal.result.now) None (whole (shape_of c.args.script.now.goal))
    ∙ c.goal-goal.ensures ∙ ap (λ (t : Labelled). t.process) c.tree.ensures.tree in
    IfOk-weaker c.drawn.result _ _ (λ scene e. ap process_in e ∙ same) c.drawn.ensures.sketch

pub returns-clause-refused : goal.returns-clause-refused
returns-clause-refused c =
    let ds = c.deref.ensures.value in
    let names : names_in c.in_ok-flows.flows ≡ flow_names (map declared c.args.script.now.decls.items) =
    c.in_ok-flows.ensures.names ∙ ap (λ (l : List Decl). flow_names (map declared l)) ds in
    let bodies : goals_in c.in_ok-flows.flows ≡ bodies_of (flow_names (map declared c.args.script.now.decls.items)) (flat_map flow_goal (map declared c.args.script.now.decls.items)) =
    c.in_ok-flows.ensures.goals ∙ ap (λ (l : List Decl). bodies_of (flow_names (map declared l)) (flat_map flow_goal (map declared l))) ds in
    let same : sources_of c.in_ok-flows.flows c.args.labels.now ≡ sources (map declared c.args.script.now.decls.items) c.args.labels.now =
    same_sources _ _ _ _ _ _ names bodies in
    let process : process_of c.goal-goal.result.now ≡ c.args.workflow.now.tree.process = c.goal-goal.ensures ∙ ap (λ (t : Labelled). t.process) c.tree.ensures.tree in
    let is : drawn (sources_of c.in_ok-flows.flows c.args.labels.now) (process_of c.goal-goal.result.now) None (whole (shape_of c.args.script.now.goal))
    ≡ drawing (said c.args.script.now) c.args.labels.now c.args.workflow.now.tree.process =
    ap (λ (s : Sources). drawn s (process_of c.goal-goal.result.now) None (whole (shape_of c.args.script.now.goal))) same
    ∙ ap (λ (q : Process). drawn (sources (map declared c.args.script.now.decls.items) c.args.labels.now) q None (whole (shape_of c.args.script.now.goal))) process in
    IfErr-weaker c.drawn.result _ _ (λ e h. subst (λ (s : Sketch). IsRefusal s e) is h) c.drawn.ensures.refused
