use Rattle.std.proofs.Common.{ℕ, List, [], ◌∷◌, ◌++◌, reverse, subst, sym, arith}
use Rattle.leaf_rows.specs.declared.leaf_set.LeafSet.{LeafSet}
use Rattle.flow_goal.specs.declared.node.Node.TheVariants.{Join}
use Rattle.flow_plan.specs.RowMarks.{MakesRowsBy}
use Rattle.flow_plan.specs.declared.sweep.Ahead.TheVariants.{Joined}
use Rattle.flow_plan.specs.declared.sweep.Forked.{Forked}
use Rattle.flow_plan.proofs.SweepLemmas.{top_of, join_first, join_second, join_passed}
use Rattle.flow_plan.proofs.sweep.Sweep.join.Goals as goal

pub returns-then-is_same : goal.returns-then-is_same
returns-then-is_same g c = λ q nodes h.
    let s = c.args.self.now in
    let ns = c.args.leaves.now in
    let rest = c.pop.new.self.items in
    let led = subst (λ (stack : List Forked). MakesRowsBy q (Join ∷ nodes) ns s.joined.items s.ahead stack s.rows.items) (top_of rest s.forks.items c.in-Some.fork c.in-Some.ensures.items) h in
    join_first q nodes ns s.joined.items s.ahead c.in-Some.fork (reverse rest) s.rows.items (c.is_same.ensures c.if-is_same.true) led

pub returns-then-is_same-2 : goal.returns-then-is_same-2
returns-then-is_same-2 g c = λ q nodes h.
    let s = c.args.self.now in
    let ns = c.args.leaves.now in
    let rest = c.pop.new.self.items in
    let led = subst (λ (stack : List Forked). MakesRowsBy q (Join ∷ nodes) ns s.joined.items s.ahead stack s.rows.items) (top_of rest s.forks.items c.in-Some.fork c.in-Some.ensures.items) h in
    join_second q nodes ns s.joined.items s.ahead c.in-Some.fork (reverse rest) s.rows.items (c.is_same-2.ensures c.if-is_same-2.true) led

pub returns : goal.returns
returns g c = λ q nodes h.
    let s = c.args.self.now in
    let ns = c.args.leaves.now in
    let rest = c.pop.new.self.items in
    let led = subst (λ (stack : List Forked). MakesRowsBy q (Join ∷ nodes) ns s.joined.items s.ahead stack s.rows.items) (top_of rest s.forks.items c.in-Some.fork c.in-Some.ensures.items) h in
    subst (λ (l : List (LeafSet g.row.W)). MakesRowsBy q nodes ns l (Joined c.len.result) (reverse rest) s.rows.items) (sym c.in_ok-push.ensures.items)
    (subst (λ (k : ℕ). MakesRowsBy q nodes ns (s.joined.items ++ c.put_in-2.new.set ∷ []) (Joined k) (reverse rest) s.rows.items) (omega (arith, c.len.ensures))
    (join_passed q nodes ns s.joined.items s.ahead c.in-Some.fork (reverse rest) s.rows.items c.new-all.result c.put_in.new.set c.put_in-2.new.set
    c.new-all.ensures c.put_in.ensures c.put_in-2.ensures led))
