use Rattle.std.proofs.Common.{◌≡◌, map, take}
use Rattle.flow_page.proofs.made.columns.Given as goal

abbrev pub invariant-loop-head : goal.invariant-loop-head
invariant-loop-head l = l.columns.items ≡ map (λ head. head.now) (take l.head-index l.heads)
