use Rattle.std.proofs.Common.{◌≡◌, take}
use Rattle.flow_model.specs.Lists.{◌∈◌}
use Rattle.flow_policy.specs.declared.tie.Tie.{Tie}
use Rattle.flow_stages.proofs.staffing.is_tied.Given as goal

abbrev pub invariant-loop-tie : goal.invariant-loop-tie
invariant-loop-tie l = (t : Tie) → t ∈ take l.tie-index l.ties → t.other ≡ l.event → ⊥
