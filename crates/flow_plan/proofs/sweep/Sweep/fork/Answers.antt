use Rattle.std.proofs.Common.{List, reverse, subst, sym}
use Rattle.flow_plan.specs.RowMarks.{MakesRowsBy}
use Rattle.flow_plan.specs.declared.sweep.Forked.{Forked}
use Rattle.flow_plan.proofs.SweepLemmas.{top_of, fork_passed}
use Rattle.flow_plan.proofs.sweep.Sweep.fork.Goals as goal

pub returns : goal.returns
returns g c = λ q nodes h.
    let s = c.args.self.now in
    let ns = c.args.leaves.now in
    subst (λ (stack : List Forked). MakesRowsBy q nodes ns s.joined.items s.ahead stack s.rows.items)
    (sym (top_of s.forks.items c.push.new.self.items (record { both = s.ahead; first = s.ahead }) c.in_ok-push.ensures.items))
    (fork_passed q nodes ns s.joined.items s.ahead (reverse s.forks.items) s.rows.items h)
