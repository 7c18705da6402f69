use Rattle.std.proofs.Common.{◌≡◌, ◌++◌, drop}
use Rattle.flow_model.specs.Lists.{Begins}
use Rattle.flow_facts.specs.Text.{more_constants}
use Rattle.flow_facts.proofs.text.push_more_constants.Given as goal

abbrev pub invariant-loop-constant : goal.invariant-loop-constant
invariant-loop-constant l = record {
  grown : Begins l.text.items l.initial.text.items;
  rest : l.text.items ++ more_constants (drop l.constant-index l.constants) ≡ l.initial.text.items ++ more_constants l.constants;
}
