use Rattle.std.proofs.Common.{◌≡◌, length, take}
use Rattle.flow_model.specs.Lists.{◌∈◌}
use Rattle.flow_plan.specs.Courses.{IsServed, ToldBy}
use Rattle.flow_plan.specs.Planned.{Planned}
use Rattle.flow_plan.specs.Rows.{IsRowOf}
use Rattle.flow_plan.proofs.CourseLemmas.{AreTurnsTo}
use Rattle.flow_plan.proofs.course.turns_of.Given as goal

abbrev pub invariant-loop-leaf : goal.invariant-loop-leaf
invariant-loop-leaf l = record {
  done_are : IsRowOf (λ x. x ∈ take l.leaf-index l.leaves) l.done;
  told : ToldBy l.folds l.done l.before;
  one_each : length l.turns.items ≡ l.leaf-index;
  turns : (p : Planned) → IsServed l.folds p → AreTurnsTo p l.leaves l.leaf-index l.turns.items;
}
