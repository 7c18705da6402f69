use Rattle.std.proofs.Common.{subst}
use Rattle.flow_model.specs.Process.{IsNumbered}
use Rattle.flow_laws.specs.WellFormed.{IsWellFormed}
use Rattle.flow_workflow.specs.Definition.{Definition, schema_of}
use Rattle.flow_workflow.proofs.workflow.Workflow.tree.Goals as goal

pub returns-clause-well_formed : goal.returns-clause-well_formed
returns-clause-well_formed c =
    subst (λ (w : Definition). IsWellFormed (schema_of w)) c.self.view_is
    (record { numbered = subst (IsNumbered c.self.inside.tree.process) c.leaves-leaves.ensures.count c.leaves-leaves.ensures.numbered; unique = c.self.invariant.unique })
