use Rattle.std.proofs.Common.{◌≡◌, ◌<◌, ◌-◌, ◌++◌}
use Rattle.flow_gen.specs.Generated.{draws}
use Rattle.flow_gen.proofs.draws.draw_all.Given as goal

abbrev pub invariant-loop : goal.invariant-loop
invariant-loop l = (l.last < 65537) × (l.numbers.items ++ draws l.last (l.count - l.counter) ≡ draws l.seed l.count)
