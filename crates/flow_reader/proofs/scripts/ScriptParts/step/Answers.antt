use Rattle.std.proofs.Common.{◌≡◌, ◌∙◌, ap, subst, IfOk, option_map}
use Rattle.flow_form.specs.Script.{said}
use Rattle.flow_grammar.specs.Machine as machine
use Rattle.flow_reader.specs.Scripts.{declared_so_far, script_state}
use Rattle.flow_reader.proofs.Ended.{no_constraint}
use Rattle.flow_reader.proofs.scripts.ScriptParts.step.Goals as goal

pub returns-in-DeclarationNeeded : goal.returns-in-DeclarationNeeded
returns-in-DeclarationNeeded c = rw c.in-DeclarationNeeded.is c.start_declaration.ensures

pub returns-in-InFact : goal.returns-in-InFact
returns-in-InFact c = rw c.in-InFact.is c.step_fact.ensures

pub returns-in-InEvent : goal.returns-in-InEvent
returns-in-InEvent c = rw c.in-InEvent.is c.step_event.ensures

pub returns-in-InFlow : goal.returns-in-InFlow
returns-in-InFlow c = rw c.in-InFlow.is c.step_flow.ensures

pub returns-in_ok-step-in-InGoal : goal.returns-in_ok-step-in-InGoal
returns-in_ok-step-in-InGoal c = rw c.in-InGoal.is (c.after_goal.ensures ∙ ap (machine.after_goal_step (declared_so_far c.args.self.now)) c.in_ok-step-in-InGoal.ensures)

pub returns-in-Constraint : goal.returns-in-Constraint
returns-in-Constraint c =
    rw (c.in-ConstraintNeeded.is, c.in-Constraint.is)
    (rw (c.restart.ensures.frames, c.restart.ensures.level))

pub returns-in_default : goal.returns-in_default
returns-in_default c = rw c.in-ConstraintNeeded.is (no_constraint _ _ _ c.args.symbol c.in_default.not-Constraint)

pub returns-in_ok-step-in-InConstraint : goal.returns-in_ok-step-in-InConstraint
returns-in_ok-step-in-InConstraint c =
    rw c.in-InConstraint.is
    (subst (λ read. IfOk c.after_constraint.result (λ step. option_map (script_state c.after_constraint.new.self) step ≡
    machine.after_rule_step (declared_so_far c.args.self.now) (said c.args.self.now.script).goal (said c.args.self.now.script).rules read))
    (c.in_ok-step-in-InConstraint.ensures) c.after_constraint.ensures)
