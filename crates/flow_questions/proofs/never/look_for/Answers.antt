use Rattle.std.proofs.Common.{◌≡◌, ap, subst, ◌∙◌}
use Rattle.flow_laws.specs.WellFormed.{IsWellFormed}
use Rattle.flow_workflow.specs.Definition.{Definition, schema_of}
use Rattle.flow_policy.specs.Assigned.{Assigned}
use Rattle.flow_stages.specs.Found.{TellsOf}
use Rattle.flow_stages.proofs.Closure.{ok_to}
use Rattle.flow_questions.specs.Questions.{LooksIn}
use Rattle.flow_questions.proofs.FoundLemmas.{looked}
use Rattle.flow_questions.proofs.StaffLemmas.{still_hold}
use Rattle.flow_questions.proofs.never.look_for.Goals as goal

pub search_options-requires : goal.search_options-requires
search_options-requires c = still_hold _ _ c.args.users c.policy.ensures c.requires.roles

pub returns : goal.returns
returns c =
    let run = c.args.run.now in
    let question = c.args.question in
    let plans = c.args.compiled.now.plans in
    let left = c.search_options.new.states in
    let w = c.workflow-workflow.result.now in
    let a = c.policy.result.now in
    let same : w ≡ run.desk.run.definition = c.workflow-workflow.ensures ∙ ap (λ r. r.definition) c.core.ensures.run in
    ok_to (TellsOf (schema_of w) a.duties plans question left) (LooksIn run question left)
    c.search_options.result (λ found told. looked run c.args.compiled.now question left found c.requires.compiled
    (subst (λ (d : Definition). IsWellFormed (schema_of d)) same c.tree.ensures.well_formed)
    (subst (λ (b : Assigned). TellsOf (schema_of run.desk.run.definition) b.duties plans question left found) c.policy.ensures
    (subst (λ (d : Definition). TellsOf (schema_of d) a.duties plans question left found) same told))) c.search_options.ensures.told
