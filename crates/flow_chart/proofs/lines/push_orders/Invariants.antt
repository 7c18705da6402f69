use Rattle.std.proofs.Common.{◌≡◌, ◌++◌, take}
use Rattle.flow_chart.specs.Lines.{order_lines}
use Rattle.flow_chart.proofs.lines.push_orders.Given as goal

abbrev pub invariant-loop-arrow : goal.invariant-loop-arrow
invariant-loop-arrow l = l.text.items ≡ l.initial.text.items ++ order_lines l.format (take l.arrow-index l.arrows)
