use Rattle.std.proofs.Common.{ap, sym, subst, ◌∙◌, map, Bor}
use Rattle.std.proofs.lemmas.List.{map_push, take_all}
use Rattle.std.specs.List.{flat_map}
use Rattle.flow_workflow.specs.Numbered.{IsAdded}
use Rattle.flow_form.specs.declared.form.Form.{Form}
use Rattle.flow_form.specs.Form.{shape_of}
use Rattle.flow_form.specs.Script.{declared}
use Rattle.flow_form.specs.Names.{flow_goal}
use Rattle.flow_expand.specs.Steps.{flow_name, flow_names}
use Rattle.flow_expand.proofs.Declarations.{distinct_flows, part_put, part_passed, part_added, not_flow}
use Rattle.flow_expand.proofs.directory.Directory.new.Goals as goal
use Rattle.flow_expand.proofs.directory.Directory.new.Goals.{in-Flow+in_ok-add+in_ok-push, in_default}

pub loop-decl-preserved : goal.loop-decl-preserved
loop-decl-preserved c =
    let decls = c.args.decls.now in
    let i = c.loop-decl.decl-index in
    let item = c.decl-item.result in
    let lt = c.loop-decl-test.true in
    let view : Bor Form → _ = λ f. shape_of f.now in
    elim c.match-decl.branch [
      | in-Flow+in_ok-add+in_ok-push w ↦ record {
        flows = part_added flow_name decls i item lt c.decl-item.is w.in-Flow.name c.loop-decl.flows c.match-decl.flows (distinct_flows (map declared decls) c.requires.once)
            (ap (λ d. flow_name (declared d)) w.in-Flow.is) c.loop-decl.invariant.flows (subst (λ new. IsAdded c.loop-decl.flows w.in-Flow.name new) (sym w.flows-is) w.in_ok-add.ensures.keys);
        goals = part_put flow_goal decls i item lt c.decl-item.is _ _ _ (ap (λ d. flow_goal (declared d)) w.in-Flow.is) c.loop-decl.invariant.goals
            (ap (λ v. map view v.items) w.goals-is ∙ ap (map view) w.in_ok-push.ensures.items ∙ map_push view c.loop-decl.goals.items _);
      }
      | in_default w ↦ record {
        flows = w.flows-is ∙ part_passed flow_name decls i item lt c.decl-item.is c.loop-decl.flows (not_flow item w.in_default.not-Flow).0 c.loop-decl.invariant.flows;
        goals = ap (λ v. map view v.items) w.goals-is ∙ part_passed flow_goal decls i item lt c.decl-item.is _ (not_flow item w.in_default.not-Flow).1 c.loop-decl.invariant.goals;
      }
    ]

pub returns-clause-directory : goal.returns-clause-directory
returns-clause-directory c =
    let all = take_all c.loop-decl.decl-index c.args.decls.now c.loop-decl-test.false in
    record {
      events = c.requires.events;
      flows = c.loop-decl.invariant.flows ∙ ap (λ ds. flow_names (map declared ds)) all;
      goals = c.loop-decl.invariant.goals ∙ ap (λ ds. flat_map flow_goal (map declared ds)) all;
      once = c.requires.once;
      closed = c.requires.closed;
    }
