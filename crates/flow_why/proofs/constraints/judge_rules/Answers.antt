use Rattle.std.proofs.Common.{subst}
use Rattle.flow_workflow.specs.Rule.{rules_of}
use Rattle.flow_goal.specs.Labelled.{Labelled}
use Rattle.flow_plan.specs.Compilation.{IsCompiled}
use Rattle.flow_excise.specs.Options.{schema_with}
use Rattle.flow_excise.specs.Compilation.{IsRefused}
use Rattle.flow_why.proofs.Sets.{formed}
use Rattle.flow_why.proofs.constraints.judge_rules.Goals as goal

pub returns-in-Ok : goal.returns-in-Ok
returns-in-Ok c =
    let rules = rules_of c.args.rules.now in
    c.judge_compiled.ensures (schema_with c.args.workflow.now.tree rules) (formed c.args.workflow.now rules c.tree.ensures.well_formed)
    (subst (λ (t : Labelled). IsCompiled (schema_with t rules) c.in-Ok.compiled) c.tree.ensures.tree c.in-Ok.ensures.ok)

pub returns-in-Err : goal.returns-in-Err
returns-in-Err c =
    let rules = rules_of c.args.rules.now in
    c.judge_refusal.ensures (schema_with c.args.workflow.now.tree rules) c.args.front.now
    (subst (λ (t : Labelled). IsRefused (schema_with t rules) c.in-Err.refusal) c.tree.ensures.tree c.in-Err.ensures.refused)
