use Rattle.std.proofs.Common.{subst, length}
use Rattle.flow_policy.specs.Tables.{AreBothWays, AreFirstWays}
use Rattle.flow_policy.proofs.OrderLemmas.{rows_in_order, ties_in_order, moved_on, moved_back}
use Rattle.flow_policy.proofs.TableLemmas.{ties_are}
use Rattle.flow_policy.proofs.tie_table.TieTable.new.Goals as goal

pub first_ways-requires : goal.first_ways-requires
first_ways-requires c = rw c.deref-2.ensures.value (rows_in_order _ c.sort_unstable.ensures.sorted)

pub invariant_of-result : goal.invariant_of-result
invariant_of-result c =
    ties_are c.args.pairs.items c.in_ok-rows.rows.items c.sort_unstable.new.self.items c.in_ok-ties.ties.items c.sort_unstable-2.new.self.items
    (subst (λ l. AreBothWays l (length l) c.in_ok-rows.rows.items) c.deref.ensures.value c.in_ok-rows.ensures)
    (moved_on _ _ c.sort_unstable.ensures.permutation) (moved_back _ _ c.sort_unstable.ensures.permutation)
    (subst (λ l. AreFirstWays l c.in_ok-ties.ties.items) c.deref-2.ensures.value c.in_ok-ties.ensures)
    (moved_on _ _ c.sort_unstable-2.ensures.permutation) (moved_back _ _ c.sort_unstable-2.ensures.permutation)
    (ties_in_order _ c.sort_unstable-2.ensures.sorted)
