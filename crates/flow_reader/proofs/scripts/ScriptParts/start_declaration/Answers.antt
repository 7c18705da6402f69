use Rattle.flow_reader.proofs.Ended.{no_declaration}
use Rattle.flow_reader.proofs.scripts.ScriptParts.start_declaration.Goals as goal

pub returns-in_default : goal.returns-in_default
returns-in_default c = no_declaration _ c.args.symbol c.in_default.not-Fact c.in_default.not-Event c.in_default.not-Flow c.in_default.not-Goal
