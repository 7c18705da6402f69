use Rattle.std.proofs.Common.{ℕ, sym, subst, ◌∙◌}
use Rattle.flow_staff.specs.Desk.{desk_of}
use Rattle.flow_case_state.specs.Takers.{IsTaker}
use Rattle.flow_case_state.proofs.TakerLoops.{event_of, some_same}
use Rattle.flow_case_state.proofs.takers.is_for_none.Goals as goal

pub returns-in-Some : goal.returns-in-Some
returns-in-Some c =
    let its = event_of c.args.core.now c.args.leaf c.event.result c.tree.result.now c.workflow.result.now c.event.ensures c.tree.ensures.tree c.workflow.ensures ∙ c.in-Some.is in (
      (λ yes. (c.in-Some.event, its, c.is_left_to_none.ensures.0 yes)),
      (λ is. c.is_left_to_none.ensures.1 (subst (λ (e : ℕ). (user : ℕ) → ¬ (IsTaker (desk_of c.args.core.now c.args.policy.now) c.args.users e user))
          (some_same is.0 c.in-Some.event (sym is.1 ∙ its)) is.2)),
    )
