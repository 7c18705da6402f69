use Rattle.std.proofs.Common.{ap, sym, ◌∙◌}
use Rattle.flow_grammar.specs.Machine as machine
use Rattle.flow_reader.specs.Readers.{arg_step}
use Rattle.flow_reader.specs.Goals.{prefix_of, frames_of, level_of}
use Rattle.flow_reader.proofs.Ended.{no_opening, no_relation}
use Rattle.flow_reader.proofs.goals.GoalPlace.step.Goals as goal

pub returns-in_default : goal.returns-in_default
returns-in_default c = rw c.in-OpeningNeeded.is (no_opening _ _ c.args.symbol c.in_default.not-Opening)

pub returns-in_default-symbol : goal.returns-in_default-symbol
returns-in_default-symbol c = rw c.in-FactNeeded.is (no_relation _ _ _ c.args.symbol c.in_default-symbol.not-Name)

pub returns-in-Reading : goal.returns-in-Reading
returns-in-Reading c = rw c.in-InArgs.is (ap (machine.after_arg (prefix_of c.in-InArgs.deed) (frames_of c.args.stack.now.frames.items) (level_of c.args.stack.now.level)) (ap arg_step (sym c.in-Reading.is) ∙ c.in_ok-args-in-InArgs.ensures))

pub returns-in-Stuck : goal.returns-in-Stuck
returns-in-Stuck c = rw c.in-InArgs.is (ap (machine.after_arg (prefix_of c.in-InArgs.deed) (frames_of c.args.stack.now.frames.items) (level_of c.args.stack.now.level)) (ap arg_step (sym c.in-Stuck.is) ∙ c.in_ok-args-in-InArgs.ensures))

pub returns-in_ok-relation-in-Name : goal.returns-in_ok-relation-in-Name
returns-in_ok-relation-in-Name c = rw (c.in-FactNeeded.is, c.in-Name.is, c.in_ok-relation-in-Name.ensures)

pub returns-in_ok-open-in-Opening : goal.returns-in_ok-open-in-Opening
returns-in_ok-open-in-Opening c = rw (c.in-OpeningNeeded.is, c.in-Opening.is)
    (rw (c.in_ok-open-in-Opening.ensures.frames, c.in_ok-open-in-Opening.ensures.level))
