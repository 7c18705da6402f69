use Rattle.std.proofs.Common.{List, ◌∷◌, reverse, subst, sym}
use Rattle.flow_goal.specs.declared.node.Node.TheVariants.{Split}
use Rattle.flow_plan.specs.RowMarks.{MakesRowsBy}
use Rattle.flow_plan.specs.declared.sweep.Forked.{Forked}
use Rattle.flow_plan.proofs.SweepLemmas.{top_of, split_passed}
use Rattle.flow_plan.proofs.sweep.Sweep.split.Goals as goal

pub returns : goal.returns
returns g c = λ q nodes h.
    let s = c.args.self.now in
    let ns = c.args.leaves.now in
    let rest = c.pop.new.self.items in
    subst (λ (stack : List Forked). MakesRowsBy q nodes ns s.joined.items c.in-Some.fork.both stack s.rows.items)
    (sym (top_of rest c.push.new.self.items (record { both = c.in-Some.fork.both; first = s.ahead }) c.in_ok-push.ensures.items))
    (split_passed q nodes ns s.joined.items s.ahead c.in-Some.fork (reverse rest) s.rows.items
    (subst (λ (stack : List Forked). MakesRowsBy q (Split ∷ nodes) ns s.joined.items s.ahead stack s.rows.items) (top_of rest s.forks.items c.in-Some.fork c.in-Some.ensures.items) h))
