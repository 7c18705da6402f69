use Rattle.std.proofs.lemmas.List.Filters.{dedup_is}
use Rattle.flow_policy.proofs.OrderLemmas.{rows_rise, rows_stay}
use Rattle.flow_policy.proofs.role_table.RoleTable.new.Goals as goal

pub invariant_of-result : goal.invariant_of-result
invariant_of-result c =
    let is = dedup_is _ _ _ c.dedup.ensures.filtered in
    rw is (rows_rise _ c.sort_unstable.ensures.sorted)

pub returns-clause-rising : goal.returns-clause-rising
returns-clause-rising c = invariant_of-result c

pub returns-clause-same : goal.returns-clause-same
returns-clause-same c =
    let is = dedup_is _ _ _ c.dedup.ensures.filtered in
    rw is (rows_stay _ _ c.sort_unstable.ensures.permutation)
