use Rattle.std.proofs.Common.{Some, ap, sym, ◌∙◌}
use Rattle.flow_grammar.specs.Machine as machine
use Rattle.flow_reader.specs.Readers.{arg_step}
use Rattle.flow_reader.specs.Scripts.{declared_so_far}
use Rattle.flow_reader.proofs.Ended.{no_name}
use Rattle.flow_reader.proofs.scripts.ScriptParts.step_fact.Goals as goal

pub returns-in_ok-relation-in-Name : goal.returns-in_ok-relation-in-Name
returns-in_ok-relation-in-Name c = rw (c.in-FactNeeded.is, c.in-Name.is, c.in_ok-relation-in-Name.ensures)

pub returns-in_default : goal.returns-in_default
returns-in_default c = rw c.in-FactNeeded.is (no_name _ c.args.symbol c.in_default.not-Name)

pub returns-in-Reading : goal.returns-in-Reading
returns-in-Reading c = rw c.in-InArgs.is (ap (machine.after_declared_arg (declared_so_far c.args.self.now)) (ap arg_step (sym c.in-Reading.is) ∙ c.in_ok-args-in-InArgs.ensures))

pub returns-in_ok-declare-in-Whole : goal.returns-in_ok-declare-in-Whole
returns-in_ok-declare-in-Whole c =
    rw c.in-InArgs.is
    (ap (λ ds. Some (machine.after_fact ds)) c.in_ok-declare-in-Whole.ensures
    ∙ ap (machine.after_declared_arg (declared_so_far c.args.self.now)) (ap arg_step (sym c.in-Whole.is) ∙ c.in_ok-args-in-InArgs.ensures))

pub returns-in-Stuck : goal.returns-in-Stuck
returns-in-Stuck c = rw c.in-InArgs.is (ap (machine.after_declared_arg (declared_so_far c.args.self.now)) (ap arg_step (sym c.in-Stuck.is) ∙ c.in_ok-args-in-InArgs.ensures))

pub returns-in-AfterFact : goal.returns-in-AfterFact
returns-in-AfterFact c = rw c.in-AfterFact.is c.join_fact.ensures
