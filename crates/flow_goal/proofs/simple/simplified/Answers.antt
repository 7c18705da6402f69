use Rattle.std.proofs.Common.{◌∙◌, sym, subst}
use Rattle.std.specs.List.Sorted.{IsStrictlyIncreasing}
use Rattle.flow_goal.specs.Goal.{process_of}
use Rattle.flow_goal.specs.Simple.{IsSimplified}
use Rattle.flow_goal.proofs.KeptLemmas.{text_of_line}
use Rattle.flow_goal.proofs.SimpleLemmas.{simplified_as}
use Rattle.flow_goal.proofs.simple.simplified.Goals as goal

pub new-requires-clause-written : goal.new-requires-clause-written
new-requires-clause-written c =
    let g = process_of c.in_ok-tree.tree in
    let simpler = simplified_as c.in_ok-whole.ensures.process c.in_ok-whole.ensures.folded c.in_ok-tree.ensures in
    let is = text_of_line g c.in_ok-text.text c.in_ok-text.ensures in
    (g, simpler.folded, is.nodes, is.leaves_are, is.fixed)

pub new-requires-clause-rising : goal.new-requires-clause-rising
new-requires-clause-rising c =
    let simpler = simplified_as c.in_ok-whole.ensures.process c.in_ok-whole.ensures.folded c.in_ok-tree.ensures in
    let is = text_of_line (process_of c.in_ok-tree.tree) c.in_ok-text.text c.in_ok-text.ensures in
    subst IsStrictlyIncreasing (c.leaves-leaves.ensures.listed ∙ sym simpler.leaves_kept ∙ sym is.leaves_are) c.leaves-leaves.ensures.rising

pub returns-clause-process : goal.returns-clause-process
returns-clause-process c =
    let g = process_of c.in_ok-tree.tree in
    let simpler = simplified_as c.in_ok-whole.ensures.process c.in_ok-whole.ensures.folded c.in_ok-tree.ensures in
    let is = text_of_line g c.in_ok-text.text c.in_ok-text.ensures in
    subst (IsSimplified c.args.goal.now.process) (sym (c.new.ensures.process g is.nodes is.leaves_are)) simpler

pub returns-clause-leaves : goal.returns-clause-leaves
returns-clause-leaves c =
    let simpler = simplified_as c.in_ok-whole.ensures.process c.in_ok-whole.ensures.folded c.in_ok-tree.ensures in
    let is = text_of_line (process_of c.in_ok-tree.tree) c.in_ok-text.text c.in_ok-text.ensures in
    c.new.ensures.leaves ∙ is.leaves_are ∙ simpler.leaves_kept ∙ sym c.leaves-leaves.ensures.listed

pub returns-clause-fixed : goal.returns-clause-fixed
returns-clause-fixed c =
    let simpler = simplified_as c.in_ok-whole.ensures.process c.in_ok-whole.ensures.folded c.in_ok-tree.ensures in
    let is = text_of_line (process_of c.in_ok-tree.tree) c.in_ok-text.text c.in_ok-text.ensures in
    c.new.ensures.fixed ∙ is.fixed ∙ simpler.fixed_kept ∙ sym c.fixed-fixed.ensures.outside
