-- What is written of a goal.
use Rattle.std.specs.Prelude.{[]}
use Rattle.flow_model.specs.Process.{Process, leaves}
use Rattle.flow_model.specs.Folding.{outside_choices}
use Rattle.flow_goal.specs.declared.keeping.Kept.{Kept}
use Rattle.flow_goal.specs.declared.keeping.Kept.TheVariants.{All, Inside, Left, Outside}
use Rattle.flow_goal.specs.LeftSides.{left_sides}
use Rattle.flow_goal.specs.Pattern.{Line, line}
use Rattle.flow_goal.specs.Written.{nodes_of}

-- the line of a goal inside a choice, where no leaf stands outside choices
abbrev pub line_inside : Process → Line
line_inside q = record { nodes = nodes_of q; leaves = leaves q; fixed = [] }

abbrev pub line_kept : Kept → Process → Line
line_kept All q = line q
line_kept Inside q = line_inside q
line_kept Left q = line (left_sides q)
line_kept Outside q = line (outside_choices q)
