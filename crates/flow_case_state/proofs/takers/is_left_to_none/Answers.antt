use Rattle.std.proofs.Common.{◌≡◌, ◌<◌, ◌+◌, true≢false, refl, sym, arith, below_more}
use Rattle.flow_staff.specs.Desk.{desk_of}
use Rattle.flow_staff.proofs.NobodyLemmas.{one_more}
use Rattle.flow_case_state.specs.Takers.{IsTaker}
use Rattle.flow_case_state.proofs.TakerLoops.{none_of_no, none_of_all}
use Rattle.flow_case_state.proofs.takers.is_left_to_none.Goals as goal

pub returns-then-may_take : goal.returns-then-may_take
returns-then-may_take c = (
  (λ f. λ user is. true≢false (sym f)),
  (λ none. absurd (none (c.loop-place.place + 1) (record { from = omega arith; to = omega arith; left = c.if-may_take.ensures.0 refl }))),
)

pub loop-place-init : goal.loop-place-init
loop-place-init c = none_of_no (desk_of c.args.core.now c.args.policy.now) c.args.users c.args.event

pub loop-place-preserved : goal.loop-place-preserved
loop-place-preserved c = one_more (IsTaker (desk_of c.args.core.now c.args.policy.now) c.args.users c.args.event) (c.loop-place.place + 1) c.loop-place.invariant
    (λ is. true≢false (sym (c.if-may_take.ensures.1 is.left)))

pub returns : goal.returns
returns c = (
  (λ t. none_of_all (desk_of c.args.core.now c.args.policy.now) c.args.users c.args.event c.loop-place.place (omega arith) c.loop-place.invariant),
  (λ none. refl),
)
