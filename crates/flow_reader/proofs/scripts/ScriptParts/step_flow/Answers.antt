use Rattle.std.proofs.Common.{◌≡◌, IfOk, option_map, subst}
use Rattle.flow_grammar.specs.Machine as machine
use Rattle.flow_reader.specs.Scripts.{declared_so_far, script_state}
use Rattle.flow_reader.proofs.Ended.{no_equals, no_name}
use Rattle.flow_reader.proofs.scripts.ScriptParts.step_flow.Goals as goal

pub returns-in_ok-flow-in-Name : goal.returns-in_ok-flow-in-Name
returns-in_ok-flow-in-Name c = rw (c.in-NameNeeded.is, c.in-Name.is, c.in_ok-flow-in-Name.ensures)

pub returns-in_default : goal.returns-in_default
returns-in_default c = rw c.in-NameNeeded.is (no_name _ c.args.symbol c.in_default.not-Name)

pub returns-in-Equals : goal.returns-in-Equals
returns-in-Equals c = rw (c.in-EqualsNeeded.is, c.in-Equals.is) (rw (c.restart.ensures.frames, c.restart.ensures.level))

pub returns-in_default-symbol : goal.returns-in_default-symbol
returns-in_default-symbol c = rw c.in-EqualsNeeded.is (no_equals _ _ c.args.symbol c.in_default-symbol.not-Equals)

pub returns-in_ok-step-in-InGoal : goal.returns-in_ok-step-in-InGoal
returns-in_ok-step-in-InGoal c =
    rw c.in-InGoal.is
    (subst (λ read. IfOk c.after_flow.result (λ made. option_map (script_state c.after_flow.new.self) made ≡
    machine.after_flow_step (declared_so_far c.args.self.now) c.in-InGoal.flow read))
    c.in_ok-step-in-InGoal.ensures c.after_flow.ensures)
