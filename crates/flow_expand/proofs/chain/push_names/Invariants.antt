use Rattle.std.proofs.Common.{◌≡◌, ◌++◌, [], get_or, map, take}
use Rattle.flow_expand.proofs.chain.push_names.Given as goal

abbrev pub invariant-loop-number : goal.invariant-loop-number
invariant-loop-number l = l.chain.items ≡ l.initial.chain.items ++ map (λ k. get_or l.names k []) (take l.number-index l.numbers)
