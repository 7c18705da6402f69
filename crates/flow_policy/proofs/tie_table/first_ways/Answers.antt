use Rattle.std.proofs.Common.{refl}
use Rattle.flow_policy.proofs.TableLemmas.{next_same, next_more}
use Rattle.flow_policy.proofs.tie_table.first_ways.Goals as goal
use Rattle.flow_policy.proofs.tie_table.first_ways.Goals.{then-not-ends_with+in_ok-push, else-not-ends_with}

pub loop-row-preserved : goal.loop-row-preserved
loop-row-preserved c = elim c.if-not-ends_with.branch [
  | then-not-ends_with+in_ok-push w ↦ (rw (w.ties-is, w.in_ok-push.ensures.items)
      (next_more c.args.rows.now c.loop-row.row-index _ c.loop-row.ties.items _ c.loop-row-test.true refl c.loop-row.invariant))
  | else-not-ends_with w ↦ (rw w.ties-is
      (next_same c.args.rows.now c.loop-row.row-index _ c.deref.result.now c.loop-row.ties.items c.loop-row-test.true c.requires c.deref.ensures.value
      (w.if-not-ends_with.ensures.0 refl) c.loop-row.invariant))
]
