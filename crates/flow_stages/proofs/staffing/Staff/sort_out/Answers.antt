use Rattle.std.proofs.Common.{◌∷◌, [], ℕ, List, get_or, ap, sym, subst, ◌∙◌, ⊎_elim}
use Rattle.std.proofs.lemmas.List.{take_all}
use Rattle.flow_model.specs.Lists.{◌∈◌}
use Rattle.flow_model.proofs.Lists.{mem-append, only_one}
use Rattle.flow_stages.specs.Fitting.{AreUntied}
use Rattle.flow_stages.proofs.NearLemmas.{near_more, far_more}
use Rattle.flow_stages.proofs.staffing.Staff.sort_out.Goals.{then-is_near+in_ok-push, else-is_near+in_ok-push-2}
use Rattle.flow_stages.proofs.staffing.Staff.sort_out.Goals as goal

pub loop-other-preserved : goal.loop-other-preserved
loop-other-preserved c =
    let events = c.args.events.now in
    let near = c.loop-other.near.items in
    let far = c.loop-other.far.items in
    let k = c.loop-other.other-index in
    let d = c.args.self.now.policy.now.duties in
    let all = c.loop-other.invariant.all in
    elim c.if-is_near.branch [
      | then-is_near+in_ok-push v ↦ record {
        all = near_more events near far k c.loop-other-test.true all _ _ (ap (λ l. l.items) v.near-is ∙ v.in_ok-push.ensures.items) (ap (λ l. l.items) v.far-is);
        far = λ f m. c.loop-other.invariant.far f (subst (λ (l : List ℕ). f ∈ l) (ap (λ l. l.items) v.far-is) m);
      }
      | else-is_near+in_ok-push-2 v ↦
          (let is = ap (λ l. l.items) v.far-is ∙ v.in_ok-push-2.ensures.items in record {
            all = far_more events near far k c.loop-other-test.true all _ _ (ap (λ l. l.items) v.near-is) is;
            far = λ f m. ⊎_elim (λ old. c.loop-other.invariant.far f old)
                (λ new. subst (AreUntied d c.args.event) (sym (only_one f (get_or events k 0) new)) (c.is_near.ensures v.if-is_near.false))
                (mem-append f far (get_or events k 0 ∷ []) (subst (λ (l : List ℕ). f ∈ l) is m));
          })
    ]

pub returns-clause-all : goal.returns-clause-all
returns-clause-all c = λ f.
    let events = c.args.events.now in
    let same = take_all c.loop-other.other-index events c.loop-other-test.false in (
      λ m. (c.loop-other.invariant.all f).0 (subst (λ (l : List ℕ). f ∈ l) (sym same) m),
      λ h. subst (λ (l : List ℕ). f ∈ l) same ((c.loop-other.invariant.all f).1 h),
    )
