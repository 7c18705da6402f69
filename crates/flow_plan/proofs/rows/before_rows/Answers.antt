use Rattle.std.proofs.Common.{◌*◌, List, ap, length, subst, sym, ◌∙◌, arith}
use Rattle.flow_model.specs.Ready.{InSequence}
use Rattle.leaf_rows.specs.declared.leaf_set.LeafSet.{LeafSet}
use Rattle.flow_plan.specs.Rows.{AreRowsOf}
use Rattle.flow_plan.proofs.RowLemmas.{rows_length, senders_small}
use Rattle.flow_plan.proofs.rows.before_rows.Goals as goal

pub add_senders-requires : goal.add_senders-requires
add_senders-requires g c = (
  omega (arith, c.requires.wide),
  (
    senders_small (64 * g.row.W) c.args.goal.now.process c.args.goal.now.leaves c.args.tokens.now c.leaves-leaves.ensures.listed c.requires.small c.requires.ordered,
    (
      ap length c.deref_mut.ensures.value ∙ rows_length (InSequence c.args.goal.now.process) c.args.goal.now.leaves c.in_ok-rows.rows.items c.in_ok-rows.ensures,
      subst (λ (l : List (LeafSet g.row.W)). AreRowsOf (InSequence c.args.goal.now.process) c.args.goal.now.leaves l) (sym c.deref_mut.ensures.value) c.in_ok-rows.ensures,
    ),
  ),
)
