use Rattle.std.proofs.Common.{◌≡◌, ◌≤◌, ◌∙◌, ℕ, length, ap, refl, sym, true≢false, arith}
use Rattle.flow_goal.specs.Labelled.{Labelled}
use Rattle.flow_workflow.specs.Definition.{Definition}
use Rattle.flow_core.specs.Run.{schema}
use Rattle.flow_staff.specs.Desk.{desk_of}
use Rattle.flow_case_state.proofs.FreeLoops.{one_more, all_leaves}
use Rattle.flow_case_state.proofs.state.are_for_none.Goals.{else-can_act-via-then-can_act+else-not-is_for_none, else-can_act-via-else-can_act}
use Rattle.flow_case_state.proofs.state.are_for_none.Goals as goal

pub loop-leaf-preserved : goal.loop-leaf-preserved
loop-leaf-preserved c =
    one_more (desk_of c.args.core.now c.args.policy.now) c.args.users c.loop-leaf.leaf c.loop-leaf.invariant (λ can. elim c.else-can_act.branch [
      | else-can_act-via-then-can_act+else-not-is_for_none w ↦ w.is_for_none.ensures.0 w.if-not-is_for_none.false
      | else-can_act-via-else-can_act w ↦ absurd (true≢false (sym (c.can_act.ensures.1 can) ∙ w.if-can_act.false))
    ])

pub returns : goal.returns
returns c =
    let count : c.leaves-leaf-end.result ≡ length (schema c.args.core.now).labels = c.leaves-leaf-end.ensures.count
    ∙ ap (λ (t : Labelled). length t.labels) (c.tree.ensures.tree ∙ ap (λ (d : Definition). d.tree) c.workflow.ensures) in (
      (λ yes. all_leaves (desk_of c.args.core.now c.args.policy.now) c.args.users c.loop-leaf.leaf (omega (arith, count, c.loop-leaf-test.false)) c.loop-leaf.invariant),
      (λ all. refl),
    )
