use Rattle.std.proofs.Common.{Option, IfSome, sym, subst}
use Rattle.flow_laws.specs.WellFormed.{IsWellFormed}
use Rattle.flow_workflow.specs.Definition.{Definition, schema_of}
use Rattle.flow_plan.specs.Compilation.{Compilation, IsCompiled, IsWithinLimits}
use Rattle.flow_core.specs.Run.{schema, now}
use Rattle.flow_why.specs.Fronts.{IsFront}
use Rattle.flow_reason.proofs.CompiledLemmas.{none_where}
use Rattle.flow_reason.proofs.GivenUpLemmas.{front_there}
use Rattle.flow_reason.proofs.in_the_way.ungiven.Goals as goal

pub returns-in-Some-clause-none : goal.returns-in-Some-clause-none
returns-in-Some-clause-none c =
    let r = c.args.core.now in
    let w = schema r in
    let formed = subst (λ (d : Definition). IsWellFormed (schema_of d)) c.workflow.ensures c.tree.ensures.well_formed in
    let compiled = subst (λ (found : Option Compilation). IfSome found (IsCompiled w)) c.in-Some.is c.in_ok-compiled.ensures.some in
    none_where c.after_leaves.result (¬ (IsFront w c.journal.result.now)) (¬ (IsWithinLimits w)) (c.after_leaves.ensures.none w formed compiled)
    (λ none. absurd (none (subst (IsFront w) (sym c.journal.ensures) (front_there r c.history.ensures.lawful))))
