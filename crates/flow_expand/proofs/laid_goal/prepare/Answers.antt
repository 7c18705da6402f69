use Rattle.std.proofs.Common.{◌≡◌, ◌∙◌, ◌≤◌, length, map, ap, sym, subst}
use Rattle.flow_model.specs.declared.limits.TheConstants.{MOST_FLOWS}
use Rattle.flow_form.specs.Script.{declared, said}
use Rattle.flow_expand.specs.Directory.{decls_of}
use Rattle.flow_expand.specs.Steps.{flow_names, AreDeclared}
use Rattle.flow_model.specs.Lists.{AreDistinct}
use Rattle.flow_form.specs.Names.{declared_names, event_names}
use Rattle.flow_expand.specs.Refusals.{flow_count}
use Rattle.flow_expand.proofs.Declarations.{goals_declared, names_counted}
use Rattle.flow_expand.proofs.LaidGoalLemmas.{flows_refusal}
use Rattle.flow_expand.proofs.laid_goal.prepare.Goals as goal

pub new-requires-clause-closed : goal.new-requires-clause-closed
new-requires-clause-closed c = subst (λ ds. AreDeclared (map declared ds)) (sym c.deref.ensures.value) (goals_declared (said c.args.script.now) c.requires.closed)

pub returns-in-Err-clause-refused : goal.returns-in-Err-clause-refused
returns-in-Err-clause-refused c =
    let d = c.in_ok-directory.directory in
    let same : decls_of d ≡ (said c.args.script.now).decls = ap (map declared) (c.in_ok-directory.ensures.decls ∙ c.deref.ensures.value) in
    let count : c.len.result ≡ flow_count (said c.args.script.now) = c.len.ensures ∙ d.goals.ok.0 ∙ names_counted d c.in_ok-directory.ensures.directory ∙ ap (λ ds. length (flow_names ds)) same in
    flows_refusal (said c.args.script.now) c.len.result c.in-Err.refusal count c.in-Err.ensures.refused

pub lay_goal-laid-requires-clause-decls : goal.lay_goal-laid-requires-clause-decls
lay_goal-laid-requires-clause-decls c = ap (map declared) (c.in_ok-directory.ensures.decls ∙ c.deref.ensures.value)

pub lay_goal-laid-requires-clause-few : goal.lay_goal-laid-requires-clause-few
lay_goal-laid-requires-clause-few c =
    let d = c.in_ok-directory.directory in
    let same : decls_of d ≡ (said c.args.script.now).decls = ap (map declared) (c.in_ok-directory.ensures.decls ∙ c.deref.ensures.value) in
    let count : c.len.result ≡ flow_count (said c.args.script.now) = c.len.ensures ∙ d.goals.ok.0 ∙ names_counted d c.in_ok-directory.ensures.directory ∙ ap (λ ds. length (flow_names ds)) same in
    subst (λ n. n ≤ MOST_FLOWS) count c.in_default.ensures.ok

pub new-requires-clause-once : goal.new-requires-clause-once
new-requires-clause-once c = subst (λ ds. AreDistinct (declared_names (map declared ds))) (sym c.deref.ensures.value) c.requires.closed.named.once

pub new-requires-clause-events : goal.new-requires-clause-events
new-requires-clause-events c = c.requires.events ∙ ap (λ ds. event_names (map declared ds)) (sym c.deref.ensures.value)
