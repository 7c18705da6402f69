use Rattle.std.proofs.Common.{◌≡◌, ℕ, ◌↔◌, ◌⊎◌, IsTrue, inl, inr, ⊎_elim, sym, subst, ◌∙◌}
use Rattle.leaf_rows.specs.Leaves.{has_leaf}
use Rattle.flow_model.specs.Lists.{◌∈◌, Each}
use Rattle.flow_model.specs.FoldedReady.{IsFoldedReady}
use Rattle.flow_model.specs.Resolution.{ChoiceOption}
use Rattle.flow_model.proofs.Lists.{mem-slice_get, each_member, each_from_members}
use Rattle.flow_laws.proofs.RunsByStep.{each_of_orders}
use Rattle.flow_fold_laws.proofs.BegunNext.{either_test}
use Rattle.flow_fold_laws.proofs.FoldedAvoid.{is_in}
use Rattle.flow_fold_laws.proofs.FoldedOrdersByTwo.{folded_by_step}
use Rattle.flow_plan.specs.Options.{option_of}
use Rattle.flow_plan.specs.Orders.{MayComeNext}
use Rattle.flow_residual.specs.Question.{TakesAll}
use Rattle.flow_residual.specs.Telling.{IsApart}
use Rattle.flow_residual.proofs.QuestionLemmas.{Before, follow_before, ready_before}
use Rattle.flow_residual.proofs.SetLemmas.{list_of}
use Rattle.flow_residual.proofs.SparedLemmas.{all_stay}
use Rattle.flow_residual.proofs.residual.Residual.all_beside.Goals as goal

pub returns-then-go_together : goal.returns-then-go_together
returns-then-go_together c = λ list is (found, at, takes_it).
    let r = c.args.self.now in
    let p = c.plan.result.now in
    let o = option_of p in
    let more = c.candidates-more.result in
    let same : option_of c.plan.result.now ≡ found = (let e = sym c.plan.ensures.at ∙ at in cc) in
    let takes : TakesAll r list o = subst (λ (u : ChoiceOption). TakesAll r list u) (sym same) takes_it in
    let there = mem-slice_get r.options c.args.place o c.plan.ensures.at in
    let (all, distinct, all_is) = list_of c.union_with.new.self in
    let either : (n : ℕ) → (n ∈ all) ↔ (IsTrue (has_leaf more n) ⊎ (n ∈ list)) = λ n.
    (let test = either_test (has_leaf more n) (has_leaf c.args.claims.now n) (λ h. h, λ h. h) (is n) in (
      λ m. test.0 (sym (c.union_with.ensures n) ∙ (all_is n).1 m),
      λ h. (all_is n).0 (c.union_with.ensures n ∙ test.1 h),
    )) in
    let each = λ (n : ℕ) (has : IsTrue (has_leaf more n)). c.candidates-more.ensures o n c.plan.ensures.at takes.0 has in
    let claimed = each_of_orders (folded_by_step o.resolution o.order) (λ x. x ∈ r.journal) list takes.1 in
    let ready : Each (MayComeNext p (Before p r.journal)) all = each_from_members (MayComeNext p (Before p r.journal)) all (λ n m. ready_before p r.journal n
    (⊎_elim (λ has. (each n has).ready) (λ old. each_member (IsFoldedReady o.resolution o.order (λ x. x ∈ r.journal)) list claimed n old) ((either n).0 m))) in
    let apart = each_member (IsApart all c.apart.result) r.options (c.apart.ensures all all_is) o there in
    let follow = follow_before p r.journal all ((c.go_together.ensures (is_in r.journal) all all_is distinct ready apart).0 c.if-go_together.true) in
    all_stay r list o all c.args.claims.now more there takes is each (λ n h. (either n).1 (⊎_elim inr inl h)) follow
