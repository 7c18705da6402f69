use Rattle.flow_gen.proofs.Limits.{choices_are_few, choices_double, choices_take_four, ways_are_single, options_are_resolutions, bulk_is_small, workflows_are_within_limits}
use Rattle.flow_gen.proofs.workflows.law_generated_workflows_are_within_limits.Goals as goal

pub returns : goal.returns
returns c = record {
  few = choices_are_few;
  resolutions = choices_double;
  leaves = choices_take_four;
  ways = ways_are_single;
  options = options_are_resolutions;
  bulk = bulk_is_small;
  within = workflows_are_within_limits;
}
