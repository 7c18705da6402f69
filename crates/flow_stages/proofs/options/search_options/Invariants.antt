use Rattle.std.proofs.Common.{◌≤◌, take}
use Rattle.flow_model.specs.Lists.{◌∈◌}
use Rattle.flow_workflow.specs.Definition.{schema_of}
use Rattle.flow_plan.specs.Sampled.{Sampled}
use Rattle.flow_stages.specs.Asked.{IsNeverSo}
use Rattle.flow_stages.proofs.options.search_options.Given as goal

abbrev pub invariant-loop-kept : goal.invariant-loop-kept
invariant-loop-kept l = record {
  never : (kept : Sampled) → kept ∈ take l.kept-index l.compiled.plans → IsNeverSo (schema_of l.workflow) l.policy.duties kept.plan l.question;
  fewer : l.states ≤ l.initial.states;
}
