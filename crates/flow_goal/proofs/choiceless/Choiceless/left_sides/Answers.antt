use Rattle.std.proofs.Common.{sym, subst}
use Rattle.std.specs.List.Sorted.{IsStrictlyIncreasing}
use Rattle.flow_goal.specs.LeftSides.{left_sides}
use Rattle.flow_goal.proofs.KeptLemmas.{left_sides_free, text_of_line}
use Rattle.flow_goal.proofs.Rising.{left_sides_increase}
use Rattle.flow_laws.proofs.FoldingLemmas.{folded_where_free}
use Rattle.flow_goal.proofs.choiceless.Choiceless.left_sides.Goals as goal

pub new-requires-clause-written : goal.new-requires-clause-written
new-requires-clause-written c =
    let g = left_sides c.args.self.now.process in
    let is = text_of_line g c.in_ok-text.text c.in_ok-text.ensures.written in
    (g, folded_where_free g (left_sides_free c.args.self.now.process), is.nodes, is.leaves_are, is.fixed)

pub new-requires-clause-rising : goal.new-requires-clause-rising
new-requires-clause-rising c =
    let is = text_of_line (left_sides c.args.self.now.process) c.in_ok-text.text c.in_ok-text.ensures.written in
    subst IsStrictlyIncreasing (sym is.leaves_are)
    (left_sides_increase c.args.self.now.process (subst IsStrictlyIncreasing c.leaves-leaves.ensures.listed c.leaves-leaves.ensures.rising))
