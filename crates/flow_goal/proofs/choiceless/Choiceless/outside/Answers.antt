use Rattle.std.proofs.Common.{sym, subst}
use Rattle.std.specs.List.Sorted.{IsStrictlyIncreasing}
use Rattle.flow_model.specs.Folding.{outside_choices}
use Rattle.flow_goal.proofs.KeptLemmas.{outside_free, text_of_line}
use Rattle.flow_goal.proofs.Rising.{outside_increases}
use Rattle.flow_laws.proofs.FoldingLemmas.{folded_where_free}
use Rattle.flow_goal.proofs.choiceless.Choiceless.outside.Goals as goal

pub new-requires-clause-written : goal.new-requires-clause-written
new-requires-clause-written c =
    let g = outside_choices c.args.self.now.process in
    let is = text_of_line g c.in_ok-text.text c.in_ok-text.ensures.written in
    (g, folded_where_free g (outside_free c.args.self.now.process), is.nodes, is.leaves_are, is.fixed)

pub new-requires-clause-rising : goal.new-requires-clause-rising
new-requires-clause-rising c =
    let is = text_of_line (outside_choices c.args.self.now.process) c.in_ok-text.text c.in_ok-text.ensures.written in
    subst IsStrictlyIncreasing (sym is.leaves_are)
    (outside_increases c.args.self.now.process (subst IsStrictlyIncreasing c.leaves-leaves.ensures.listed c.leaves-leaves.ensures.rising))
