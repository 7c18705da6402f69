use Rattle.std.proofs.Common.{◌+◌, ◌∙◌, ap, subst, sym, true≢false}
use Rattle.flow_model.specs.Verdict.{AreJust}
use Rattle.flow_core.specs.Lists.{IsListed}
use Rattle.flow_core.proofs.RisingLists.{Below, one_found, one_passed}
use Rattle.flow_core.proofs.run.Core.list.Goals.{then-is_listed+in_ok-push, else-is_listed}
use Rattle.flow_core.proofs.run.Core.list.Goals as goal

pub loop-number-preserved : goal.loop-number-preserved
loop-number-preserved c =
    let P = IsListed c.args.self.now c.args.what in
    let just = c.loop-number.invariant in
    elim c.if-is_listed.branch [
      | then-is_listed+in_ok-push w ↦ subst (AreJust (Below P (c.loop-number.number + 1))) (sym (ap (λ v. v.items) w.numbers-is ∙ w.in_ok-push.ensures.items))
          (one_found P c.loop-number.number c.loop-number.numbers.items just (c.is_listed.ensures.0 w.if-is_listed.true))
      | else-is_listed w ↦ subst (AreJust (Below P (c.loop-number.number + 1))) (sym (ap (λ v. v.items) w.numbers-is))
          (one_passed P c.loop-number.number c.loop-number.numbers.items just (λ has. true≢false (sym (c.is_listed.ensures.1 has) ∙ w.if-is_listed.false)))
    ]
