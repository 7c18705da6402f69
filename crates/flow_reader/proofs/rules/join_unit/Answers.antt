use Rattle.std.proofs.Common.{ap}
use Rattle.flow_grammar.specs.Machine as machine
use Rattle.flow_reader.specs.RuleLevels.{rule_frames_of}
use Rattle.flow_reader.proofs.Ended.{no_rule_join}
use Rattle.flow_reader.proofs.rules.join_unit.Goals as goal

pub returns-in_default : goal.returns-in_default
returns-in_default c = no_rule_join _ _ c.args.symbol c.in_default.not-And c.in_default.not-Or c.in_default.not-Semicolon c.in_default.not-Closing

pub returns-in_ok-close_all-in-Or : goal.returns-in_ok-close_all-in-Or
returns-in_ok-close_all-in-Or c = rw c.in-Or.is (ap (λ now. machine.reading (machine.unit_needed (rule_frames_of c.args.stack.now.frames.items) now 0)) c.in_ok-close_all-in-Or.ensures)
