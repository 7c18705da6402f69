use Rattle.std.proofs.Common.{◌≡◌}
use Rattle.flow_model.specs.Lists.{numbers_from}
use Rattle.flow_expand.proofs.numbered_goal.numbers_below.Given as goal

abbrev pub invariant-loop-number : goal.invariant-loop-number
invariant-loop-number l = l.numbers.items ≡ numbers_from 0 l.number
