use Rattle.std.proofs.Common.{◌≡◌, take}
use Rattle.flow_model.specs.Lists.{numbers_from}
use Rattle.flow_plan.specs.Planned.{pairs_of, token_numbers}
use Rattle.flow_weave.proofs.weaving.tokens_of.Given as goal

abbrev pub invariant-loop-number : goal.invariant-loop-number
invariant-loop-number l = record {
  pairs : pairs_of l.tokens.items ≡ take l.number l.pairs;
  numbers : token_numbers l.tokens.items ≡ numbers_from 0 l.number;
}
