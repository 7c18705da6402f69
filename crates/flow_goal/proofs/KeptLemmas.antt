-- What is kept of a goal, and the goal of a text.
use Rattle.std.proofs.Common.{◌≡◌, ap}
use Rattle.flow_model.specs.Process.{Process, Empty, Task, Sequence, Parallel, Choice, Isolated, leaves, IsChoiceFree}
use Rattle.flow_model.specs.Folding.{fixed_leaves, outside_choices}
use Rattle.flow_goal.specs.declared.text.Text.{Text}
use Rattle.flow_goal.specs.LeftSides.{left_sides}
use Rattle.flow_goal.specs.Pattern.{Line, line, line_of}
use Rattle.flow_goal.specs.Written.{nodes_of}

pub left_sides_free : (g : Process) → IsChoiceFree (left_sides g)
left_sides_free Empty = tt
left_sides_free (Task n) = tt
left_sides_free (Sequence a b) = (left_sides_free a, left_sides_free b)
left_sides_free (Parallel a b) = (left_sides_free a, left_sides_free b)
left_sides_free (Choice a b) = left_sides_free a
left_sides_free (Isolated a) = left_sides_free a

pub outside_free : (g : Process) → IsChoiceFree (outside_choices g)
outside_free Empty = tt
outside_free (Task n) = tt
outside_free (Sequence a b) = (outside_free a, outside_free b)
outside_free (Parallel a b) = (outside_free a, outside_free b)
outside_free (Choice a b) = tt
outside_free (Isolated a) = outside_free a

-- the text is that of the goal
pub record IsTextOf (q : Process) (text : Text) : Type 0 where
  pub nodes : text.nodes.items ≡ nodes_of q
  pub leaves_are : text.leaves.items ≡ leaves q
  pub fixed : text.fixed.items ≡ fixed_leaves q

pub text_of_line : (q : Process) (text : Text) → line_of text ≡ line q → IsTextOf q text
text_of_line q text is = record {
  nodes = ap (λ (l : Line). l.nodes) is;
  leaves_are = ap (λ (l : Line). l.leaves) is;
  fixed = ap (λ (l : Line). l.fixed) is;
}
