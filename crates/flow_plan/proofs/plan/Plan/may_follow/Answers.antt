use Rattle.std.proofs.Common.{ℕ, ◌↔◌, [], ◌∷◌, ◌∙◌, sym}
use Rattle.leaf_rows.specs.Leaves.{has_leaf}
use Rattle.flow_model.specs.Ready.{DoneOr}
use Rattle.flow_plan.specs.Sided.{IsDoneIn}
use Rattle.flow_plan.proofs.Following.{same_orders, sides_tell}
use Rattle.flow_plan.proofs.Readiness.{kept_ordered}
use Rattle.flow_plan.proofs.RowLemmas.{one_more}
use Rattle.flow_plan.proofs.plan.Plan.may_follow.Goals as goal

pub in_every_order-requires-clause-tell : goal.in_every_order-requires-clause-tell
in_every_order-requires-clause-tell c =
    let ordered = kept_ordered c.self.inside.rows c.self.invariant.kept c.self.view_is in
    sides_tell c.args.self.now c.new-after.result (has_leaf c.with-done.result) (has_leaf c.new.result)
    (c.new-after.ensures c.args.self.now.process c.requires.folds ordered.folded ordered.distinct)

pub returns : goal.returns
returns c =
    let p = c.args.self.now in
    let ordered = kept_ordered c.self.inside.rows c.self.invariant.kept c.self.view_is in
    let told = c.new-after.ensures p.process c.requires.folds ordered.folded ordered.distinct in
    let same : (n : ℕ) → IsDoneIn c.new-after.result n ↔ DoneOr (IsDoneIn c.args.sides.now) (c.args.first ∷ []) n = λ n.
    let more = one_more n c.args.first (has_leaf c.args.sides.now.done n) in (
      λ done. more.0 (sym (c.with-done.ensures n) ∙ (told.done n).0 done),
      λ either. (told.done n).1 (c.with-done.ensures n ∙ more.1 either),
    ) in
    let orders = same_orders p (IsDoneIn c.new-after.result) (DoneOr (IsDoneIn c.args.sides.now) (c.args.first ∷ [])) c.args.list.now same in (
      λ yes. orders.0 (c.in_every_order.ensures.0 yes),
      λ all. c.in_every_order.ensures.1 (orders.1 all),
    )
