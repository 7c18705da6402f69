use Rattle.leaf_rows.specs.Leaves.{has_leaf}
use Rattle.flow_residual.proofs.QuestionLemmas.{less_barred}
use Rattle.flow_residual.proofs.residual.Residual.all_taken.Goals as goal

pub returns : goal.returns
returns c leaf = less_barred c.args.self.now c.sides.result.now c.args.claims.now c.args.stand leaf (has_leaf c.all_in_order-found.result leaf) (has_leaf c.remove_all.new.self leaf) c.sides.ensures.tell c.sides.ensures.ordered
    c.in-Some.ensures.some.2 (c.all_in_order-found.ensures leaf) (c.remove_all.ensures leaf)
