use Rattle.std.proofs.Common.{ap, ◌∙◌}
use Rattle.flow_grammar.specs.Machine as machine
use Rattle.flow_reader.specs.RuleLevels.{rule_frames_of, rule_level_of}
use Rattle.flow_reader.specs.Rules.{missing_names}
use Rattle.flow_reader.proofs.Ended.{no_missing_name}
use Rattle.flow_reader.proofs.rules.read_name.Goals as goal

pub returns-in_default : goal.returns-in_default
returns-in_default c = no_missing_name _ _ _ _ c.args.symbol c.in_default.not-Name

pub returns-in_ok-take_name-in-Name : goal.returns-in_ok-take_name-in-Name
returns-in_ok-take_name-in-Name c =
    rw c.in-Name.is
    (ap machine.reading (c.in_ok-take_name-in-Name.ensures
    ∙ ap (machine.take_name (missing_names c.args.names) (rule_frames_of c.args.stack.now.frames.items) (rule_level_of c.args.stack.now.level) c.args.nots) c.in_ok-name-in-Name.ensures))
