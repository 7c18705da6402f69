use Rattle.std.proofs.Common.{◌≡◌, ◌≤◌, ◌∙◌, true, false, length, subst, sym, rules, ltb, leb}
use Rattle.std.specs.List.Sorted.{IsNonDecreasingBy, IsPartitionPoint}
use Rattle.std.proofs.lemmas.List.Sorted.{IsPartitionPoint-from_clause, IsPartitionedBy-leb, IsPartitionedBy-ltb}
use Rattle.flow_policy.specs.declared.tie.Tie.{Tie}
use Rattle.flow_policy.proofs.RowLemmas.{part_found, rest_rises, keys_at_places}
use Rattle.flow_policy.proofs.TableLemmas.{ties_by_event, ties_of_table}
use Rattle.flow_policy.proofs.tie_table.TieTable.of_event.Goals as goal

pub returns : goal.returns
returns c =
    let event = λ (t : Tie). t.event in
    let ties = c.self.inside.ties.items in
    let rises : IsNonDecreasingBy event ties = keys_at_places event ties (ties_by_event ties c.self.invariant.rise) in
    let lent : c.deref.result.now ≡ ties = c.deref.ensures.value in
    let again : c.deref-2.result.now ≡ ties = c.deref-2.ensures.value in
    let below = subst (IsNonDecreasingBy event) (sym lent) rises in
    let rest = rest_rises event ties c.deref-2.result.now c.partition_point-start.result again rises in
    let start = IsPartitionPoint-from_clause (λ t. ltb t.event c.args.event) _ _ c.partition_point-start.ensures.partitioned (IsPartitionedBy-ltb event _ c.args.event below) (λ a r q k. search rules) in
    let count = IsPartitionPoint-from_clause (λ t. leb t.event c.args.event) _ _ c.partition_point-count.ensures.partitioned (IsPartitionedBy-leb event _ c.args.event rest) (λ a r q k. search rules) in
    let part = part_found event c.args.event ties c.deref-2.result.now c.partition_point-start.result c.partition_point-count.result again
    (subst (λ l. c.partition_point-start.result ≤ length l) (lent ∙ sym again) c.partition_point-start.ensures.bound) c.partition_point-count.ensures.bound
    (subst (λ l. IsPartitionPoint (λ (t : Tie). ltb t.event c.args.event ≡ true) (λ (t : Tie). ltb t.event c.args.event ≡ false) l c.partition_point-start.result) (lent ∙ sym again) start) count in
    ties_of_table c.self.inside.pairs.items c.args.self.now c.args.event ties _ c.self.view_is c.self.invariant part
