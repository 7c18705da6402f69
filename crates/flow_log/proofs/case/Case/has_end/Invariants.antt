use Rattle.std.proofs.Common.{◌<◌, ◌↔◌, ℕ, List, IsTrue}
use Rattle.leaf_rows.specs.Leaves.{has_leaf}
use Rattle.flow_model.specs.Lists.{◌∈◌}
use Rattle.flow_residual.specs.Options.{HasAt}
use Rattle.flow_trace.specs.Fronts.{Follows, Finishes}
use Rattle.flow_log.specs.Case.{fitted_of}
use Rattle.flow_log.proofs.case.Case.has_end.Given as goal

abbrev pub invariant-loop-place : goal.invariant-loop-place
invariant-loop-place g l = (j : ℕ) (list : List ℕ) → j < l.place → IsTrue (has_leaf l.options j) → ((n : ℕ) → IsTrue (has_leaf l.done n) ↔ (n ∈ list)) →
    HasAt (Follows list) (fitted_of l.self).options j → ¬ (HasAt (Finishes list) (fitted_of l.self).options j)
