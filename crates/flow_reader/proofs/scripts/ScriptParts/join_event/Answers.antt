use Rattle.flow_grammar.specs.Machine.{event_to_declare}
use Rattle.flow_reader.specs.Scripts.{declared_so_far}
use Rattle.flow_reader.proofs.Ended.{no_item}
use Rattle.flow_reader.proofs.scripts.ScriptParts.join_event.Goals as goal

pub returns-in_default : goal.returns-in_default
returns-in_default c = no_item event_to_declare (declared_so_far c.args.self.now) c.args.symbol c.in_default.not-Comma c.in_default.not-Semicolon
