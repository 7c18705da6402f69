use Rattle.std.proofs.Common.{ℕ, IsTrue, [], ◌∷◌, List, ap, inl, inr, subst, ◌∙◌}
use Rattle.std.proofs.lemmas.List.{take_all}
use Rattle.leaf_rows.specs.Leaves.{has_leaf}
use Rattle.leaf_rows.specs.declared.leaf_set.LeafSet.{LeafSet}
use Rattle.leaf_rows.specs.declared.TheConstants.{LEAF_WORDS}
use Rattle.flow_model.specs.Lists.{◌∈◌}
use Rattle.flow_model.specs.Ready.{DoneOr}
use Rattle.flow_plan.specs.Orders.{MayFollowInEveryOrder}
use Rattle.flow_plan.specs.Rows.{IsRowOf}
use Rattle.flow_plan.specs.Sided.{IsDoneIn}
use Rattle.flow_plan.proofs.StepRows.{free_more}
use Rattle.flow_plan.proofs.plan.Plan.followed_by.Goals as goal
use Rattle.flow_plan.proofs.plan.Plan.followed_by.Goals.{then-is_followed_by, else-is_followed_by}

pub loop-leaf-preserved : goal.loop-leaf-preserved
loop-leaf-preserved c =
    let ns = c.leaves-leaf-items.result.now in
    free_more ns c.loop-leaf.leaf-index (λ n. IsTrue (has_leaf c.args.candidates.now n) × MayFollowInEveryOrder c.args.self.now (DoneOr (IsDoneIn c.args.sides.now) (n ∷ [])) c.args.list.now)
    c.loop-leaf.all c.if-is_followed_by.all c.is_followed_by.result c.loop-leaf-test.true c.is_followed_by.ensures c.loop-leaf.invariant
    (elim c.if-is_followed_by.branch [
      | then-is_followed_by w ↦ inl (w.if-is_followed_by.true, λ x. ap (λ (r : LeafSet LEAF_WORDS). has_leaf r x) w.all-is ∙ w.insert.ensures x)
      | else-is_followed_by w ↦ inr (w.if-is_followed_by.false, w.all-is)
    ])

pub returns : goal.returns
returns c =
    let F : ℕ → Type 0 = λ n. IsTrue (has_leaf c.args.candidates.now n) × MayFollowInEveryOrder c.args.self.now (DoneOr (IsDoneIn c.args.sides.now) (n ∷ [])) c.args.list.now in
    subst (λ (l : List ℕ). IsRowOf (λ n. (n ∈ l) × F n) c.loop-leaf.all)
    (take_all c.loop-leaf.leaf-index c.leaves-leaf-items.result.now c.loop-leaf-test.false ∙ (c.leaves-leaf-items.ensures.leaves ∙ c.leaves-leaf-items.ensures.listed)) c.loop-leaf.invariant
