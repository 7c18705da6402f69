use Rattle.std.proofs.Common.{◌≡◌, map}
use Rattle.flow_model.specs.Lists.{numbers_from}
use Rattle.flow_log_cli.specs.Passing.{passing}
use Rattle.flow_log_cli.proofs.passing.counts_of.Given as goal

abbrev pub invariant-loop-leaf : goal.invariant-loop-leaf
invariant-loop-leaf l = l.counts.items ≡ map (passing l.ways l.of_cases) (numbers_from 0 l.leaf)
