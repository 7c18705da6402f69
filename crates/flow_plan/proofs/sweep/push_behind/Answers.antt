use Rattle.std.proofs.Common.{◌≡◌, ◌==◌, ◌||◌, ◌∙◌, List, Some, ap, length, slice_get, sym, subst, arith}
use Rattle.leaf_rows.specs.Leaves.{has_leaf}
use Rattle.leaf_rows.specs.declared.leaf_set.LeafSet.{LeafSet}
use Rattle.flow_plan.proofs.RowLemmas.{last_changed, last_stands}
use Rattle.flow_plan.proofs.SweepLemmas.{behind_has}
use Rattle.flow_plan.proofs.sweep.push_behind.Goals as goal

pub returns : goal.returns
returns g c = λ joined test stands.
    let row = c.in-Some-Some.row.now in
    let rows = c.args.rows.now.items in
    let pushed = c.push.new.self.items in
    let last : c.len-last.result ≡ length c.args.rows.now.items = omega (arith, c.len-last.ensures) in
    let here = subst (λ (l : List (LeafSet g.row.W)). slice_get l c.args.place ≡ Some row) c.deref.ensures.value c.in-Some-Some.ensures.some in
    let lent = last_stands rows pushed row c.index_mut.result.now c.len-last.result c.in_ok-push.ensures.items last c.index_mut.ensures.value in (
      c.insert.new.self,
      last_changed rows pushed row c.insert.new.self c.len-last.result c.in_ok-push.ensures.items last,
      behind_has c.args.leaves.now rows joined c.args.place c.in-Some-Some.leaf row c.insert.new.self (sym c.in-Some-Some.ensures'.leaf) here
          (λ x. c.insert.ensures x ∙ ap (λ (set : LeafSet g.row.W). x == c.in-Some-Some.leaf || has_leaf set x) lent) test stands,
    )
