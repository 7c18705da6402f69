use Rattle.std.proofs.Common.{◌≡◌, take}
use Rattle.flow_facts.proofs.fact.Fact.copy.Given as goal

abbrev pub invariant-loop-arg : goal.invariant-loop-arg
invariant-loop-arg l = l.args.items ≡ take l.arg-index l.self.args
