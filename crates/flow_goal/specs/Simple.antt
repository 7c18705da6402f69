-- Goals without what says nothing.
use Rattle.std.specs.Prelude.{◌≡◌, ℕ, List, ◌⊎◌, ◌↔◌, Bool, true, false, if◌then◌else◌, ◌&&◌}
use Rattle.flow_model.specs.declared.operators.Operator.{Operator}
use Rattle.flow_model.specs.declared.operators.Operator.TheVariants.{Serial, Beside, Either}
use Rattle.flow_model.specs.Process.{Process, Empty, Task, Sequence, Parallel, Choice, Isolated, IsChoiceFree, leaves}
use Rattle.flow_model.specs.Folding.{IsFolded, fixed_leaves}
use Rattle.flow_model.specs.Trace.{Blocks}
use Rattle.flow_goal.specs.Goal.{together}

-- it is neither nothing nor a leaf, and not isolated itself
abbrev pub IsSeveral : Process → Type 0
IsSeveral (Sequence a b) = Unit {0}
IsSeveral (Parallel a b) = Unit {0}
IsSeveral (Choice a b) = Unit {0}
IsSeveral g = ⊥

-- there is no nothing in it, and each isolation is of several
abbrev pub IsBusy : Process → Type 0
IsBusy Empty = ⊥
IsBusy (Task n) = Unit {0}
IsBusy (Sequence a b) = IsBusy a × IsBusy b
IsBusy (Parallel a b) = IsBusy a × IsBusy b
IsBusy (Choice a b) = IsBusy a × IsBusy b
IsBusy (Isolated a) = IsSeveral a × IsBusy a

-- nothing at all, or no nothing in it
abbrev pub IsSimple : Process → Type 0
IsSimple g = (g ≡ Empty) ⊎ IsBusy g

-- what a simpler goal keeps of a goal
pub record IsSimplified (old new : Process) : Type 0 where
  pub same : (blocks : List (List ℕ)) → Blocks new blocks ↔ Blocks old blocks
  pub simple : IsSimple new
  pub leaves_kept : leaves new ≡ leaves old
  pub fixed_kept : fixed_leaves new ≡ fixed_leaves old
  pub folded : IsFolded new
  pub choice_free : IsChoiceFree old → IsChoiceFree new

-- it is nothing
abbrev pub is_empty : Process → Bool
is_empty Empty = true
is_empty g = false

-- its isolation would say something
abbrev pub is_several : Process → Bool
is_several (Sequence a b) = true
is_several (Parallel a b) = true
is_several (Choice a b) = true
is_several g = false

-- one of two goals may be left out where it is nothing
abbrev pub may_leave_out : Operator → Bool
may_leave_out Either = false
may_leave_out operator = true

abbrev pub leaves_out : Operator → Process → Bool
leaves_out operator a = may_leave_out operator && is_empty a

-- both goals, or the other one where one is left out
abbrev pub simple_together : Operator → Process → Process → Process
simple_together operator a b = if leaves_out operator a then b else if leaves_out operator b then a else together operator a b

-- the isolation, or the goal itself where that says the same
abbrev pub simple_isolation : Process → Process
simple_isolation a = if is_several a then Isolated a else a

-- the simpler goal
abbrev pub simple_of : Process → Process
simple_of Empty = Empty
simple_of (Task n) = Task n
simple_of (Sequence a b) = simple_together Serial (simple_of a) (simple_of b)
simple_of (Parallel a b) = simple_together Beside (simple_of a) (simple_of b)
simple_of (Choice a b) = simple_together Either (simple_of a) (simple_of b)
simple_of (Isolated a) = simple_isolation (simple_of a)
