use Rattle.std.proofs.Common.{length, arith, ap}
use Rattle.flow_model.specs.Folding.{folded_options}
use Rattle.flow_plan.specs.Options.{HasExecution, options_of}
use Rattle.flow_workflow.specs.Definition.{schema_of}
use Rattle.flow_residual.proofs.OptionLemmas.{length-options}
use Rattle.flow_log.proofs.FitLemmas.{kept_few}
use Rattle.flow_log.proofs.OnceLemmas.{all_once}
use Rattle.flow_log.proofs.fitting.fit.Goals as goal

pub returns-then-room-clause-only : goal.returns-then-room-clause-only
returns-then-room-clause-only c = all_once c.args.workflow.now c.args.events.now c.args.budget c.fit_by.result c.fit_by.ensures

pub returns-then-room-2-clause-only : goal.returns-then-room-2-clause-only
returns-then-room-2-clause-only c = all_once c.args.workflow.now c.args.events.now c.args.budget c.fit_by-then-room-2.result c.fit_by-then-room-2.ensures

pub returns-clause-only : goal.returns-clause-only
returns-clause-only c = all_once c.args.workflow.now c.args.events.now c.args.budget c.fit_by-2.result c.fit_by-2.ensures

pub fit_by-requires-2-clause-few : goal.fit_by-requires-2-clause-few
fit_by-requires-2-clause-few c =
    let plans = c.args.compiled.now.plans in
    let few = kept_few HasExecution (folded_options (schema_of c.args.workflow.now)) (options_of plans) c.requires.plans in
    omega (arith, few, c.requires.within.options_few, length-options plans, ap length c.plans.ensures.plans)
