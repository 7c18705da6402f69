use Rattle.std.proofs.Common.{◌≡◌, ℕ, ◌≤◌, ◌∙◌, true, false, length, subst, sym, rules, ltb, leb}
use Rattle.std.specs.List.Sorted.{IsNonDecreasingBy, IsPartitionPoint}
use Rattle.std.proofs.lemmas.List.Sorted.{IsPartitionPoint-from_clause, IsPartitionedBy-leb, IsPartitionedBy-ltb}
use Rattle.flow_policy.specs.Policy.{AreRising}
use Rattle.flow_policy.proofs.RowLemmas.{part_found, rest_rises, keys_at_places}
use Rattle.flow_policy.proofs.TableLemmas.{rising_firsts, seconds_of_part}
use Rattle.flow_policy.proofs.role_table.RoleTable.part.Goals as goal

pub returns-clause-part : goal.returns-clause-part
returns-clause-part c =
    let first = λ (row : ℕ × ℕ). row.0 in
    let rows = c.args.self.now in
    let rises : IsNonDecreasingBy first rows = keys_at_places first rows (rising_firsts rows (subst AreRising c.self.view_is c.self.invariant)) in
    let lent : c.deref.result.now ≡ rows = c.deref.ensures.value ∙ c.self.view_is in
    let again : c.deref-2.result.now ≡ rows = c.deref-2.ensures.value ∙ c.self.view_is in
    let below = subst (IsNonDecreasingBy first) (sym lent) rises in
    let rest = rest_rises first rows c.deref-2.result.now c.partition_point-start.result again rises in
    let start = IsPartitionPoint-from_clause (λ row. ltb row.0 c.args.key) _ _ c.partition_point-start.ensures.partitioned (IsPartitionedBy-ltb first _ c.args.key below) (λ a r q k. search rules) in
    let count = IsPartitionPoint-from_clause (λ row. leb row.0 c.args.key) _ _ c.partition_point-count.ensures.partitioned (IsPartitionedBy-leb first _ c.args.key rest) (λ a r q k. search rules) in
    part_found first c.args.key rows c.deref-2.result.now c.partition_point-start.result c.partition_point-count.result again
    (subst (λ l. c.partition_point-start.result ≤ length l) (lent ∙ sym again) c.partition_point-start.ensures.bound) c.partition_point-count.ensures.bound
    (subst (λ l. IsPartitionPoint (λ (row : ℕ × ℕ). ltb row.0 c.args.key ≡ true) (λ (row : ℕ × ℕ). ltb row.0 c.args.key ≡ false) l c.partition_point-start.result) (lent ∙ sym again) start) count

pub returns-clause-rising : goal.returns-clause-rising
returns-clause-rising c = seconds_of_part c.args.key c.args.self.now _ (subst AreRising c.self.view_is c.self.invariant) (returns-clause-part c)
