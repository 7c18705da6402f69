use Rattle.std.proofs.Common.{subst}
use Rattle.flow_laws.specs.WellFormed.{IsWellFormed}
use Rattle.flow_workflow.specs.Definition.{Definition, schema_of}
use Rattle.flow_roles.specs.Desked.{KeepsDuties}
use Rattle.flow_roles.specs.Invariant.{desked_by}
use Rattle.flow_roles.proofs.Dutiful.{duties_kept}
use Rattle.flow_roles.proofs.desk.Desk.core.Goals as goal

pub returns-clause-kept : goal.returns-clause-kept
returns-clause-kept c =
    let formed = subst (λ (w : Definition). IsWellFormed (schema_of w)) c.workflow.ensures c.tree.ensures.well_formed in
    subst KeepsDuties c.self.view_is (duties_kept (desked_by c.self.inside) formed c.history.ensures.lawful c.self.invariant)
