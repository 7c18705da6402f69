use Rattle.std.proofs.Common.{◌≡◌, ℕ, Option, take}
use Rattle.flow_rules.specs.Lanes.{is_marked}
use Rattle.flow_rules.specs.WayCount.{Tells, count_of}
use Rattle.flow_rules.specs.Narrowed.{open_ways}
use Rattle.flow_rules.proofs.narrowed.count_open.Given as goal

abbrev pub invariant-loop-rule : goal.invariant-loop-rule
invariant-loop-rule l = (leaf : ℕ → Option ℕ) → Tells (is_marked l.one.words.now l.one.lane) leaf →
    l.count ≡ count_of (open_ways l.one.lane leaf (take l.rule-index l.rules))
