use Rattle.std.proofs.Common.{◌≡◌, List, ◌∷◌, ◌++◌, drop}
use Rattle.flow_model.specs.Lists.{◌∈◌}
use Rattle.flow_model.specs.Schema.{Schema}
use Rattle.flow_model.specs.Run.{RunState}
use Rattle.flow_residual.specs.Remaining.{IsOf}
use Rattle.flow_standing.specs.declared.claims.Out.{Out}
use Rattle.flow_reason.specs.InTheWay.{leaves_of, MayCome}
use Rattle.flow_reason.proofs.in_the_way.least_in_the_way.Given as goal

abbrev pub invariant-loop-place : goal.invariant-loop-place
invariant-loop-place l = record {
  among : (out : Out) → out ∈ l.kept.items → out ∈ l.outs;
  blocked : (w : Schema) (s : RunState) → IsOf w s l.residual → (MayCome l.is_event w s l.leaf (leaves_of l.outs) → ⊥) →
      MayCome l.is_event w s l.leaf (leaves_of (l.kept.items ++ drop l.place l.outs)) → ⊥;
  least : (w : Schema) (s : RunState) → IsOf w s l.residual → (front back : List Out) (out : Out) → l.kept.items ≡ front ++ out ∷ back →
      MayCome l.is_event w s l.leaf (leaves_of ((front ++ back) ++ drop l.place l.outs));
}
