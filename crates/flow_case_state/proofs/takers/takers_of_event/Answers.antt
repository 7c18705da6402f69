use Rattle.std.proofs.Common.{◌≡◌, ◌<◌, ◌≤◌, ◌+◌, ◌∙◌, ap, subst, sym, true≢false, arith}
use Rattle.flow_model.specs.Verdict.{AreJust}
use Rattle.flow_core.proofs.RisingLists.{Below, one_found, one_passed}
use Rattle.flow_staff.specs.Desk.{desk_of}
use Rattle.flow_case_state.specs.Takers.{IsTaker}
use Rattle.flow_case_state.proofs.TakerLoops.{none_first, none_past}
use Rattle.flow_case_state.proofs.takers.takers_of_event.Goals.{then-may_take+in_ok-push, else-may_take}
use Rattle.flow_case_state.proofs.takers.takers_of_event.Goals as goal

pub loop-place-init : goal.loop-place-init
loop-place-init c =
    subst (AreJust (Below (IsTaker (desk_of c.args.core.now c.args.policy.now) c.args.users c.args.event) 1)) (sym c.new-found.ensures.items)
    (none_first (desk_of c.args.core.now c.args.policy.now) c.args.users c.args.event)

pub loop-place-preserved : goal.loop-place-preserved
loop-place-preserved c =
    let d = desk_of c.args.core.now c.args.policy.now in
    let P = IsTaker d c.args.users c.args.event in
    let user = c.loop-place.place + 1 in
    let just = c.loop-place.invariant in
    elim c.if-may_take.branch [
      | then-may_take+in_ok-push w ↦ subst (AreJust (Below P (user + 1))) (sym (ap (λ v. v.items) w.found-is ∙ w.in_ok-push.ensures.items))
          (one_found P user c.loop-place.found.items just (record { from = omega arith; to = omega arith; left = c.may_take.ensures.0 w.if-may_take.true }))
      | else-may_take w ↦ subst (AreJust (Below P (user + 1))) (sym (ap (λ v. v.items) w.found-is))
          (one_passed P user c.loop-place.found.items just (λ is. true≢false (sym (c.may_take.ensures.1 is.left) ∙ w.if-may_take.false)))
    ]

pub returns : goal.returns
returns c = none_past (desk_of c.args.core.now c.args.policy.now) c.args.users c.args.event c.loop-place.place c.loop-place.found.items (omega arith) c.loop-place.invariant
