use Rattle.std.proofs.Common.{ap, ◌∙◌}
use Rattle.flow_grammar.specs.Machine as machine
use Rattle.flow_reader.specs.Symbols.{meant}
use Rattle.flow_reader.specs.Scripts.{script_state}
use Rattle.flow_reader.proofs.Loops.{settled_step, settled_refusal}
use Rattle.flow_reader.proofs.reading.step_script.Goals as goal

pub returns-clause-ok : goal.returns-clause-ok
returns-clause-ok c =
    settled_step (script_state c.step.new.self) machine.step_script machine.depth_script (script_state c.args.parts.now c.args.reached) (meant c.args.symbol)
    c.step.result c.is_too_deep-deep.result c.args.place c.wanted-kind.result c.settled.result c.step.ensures
    (c.is_too_deep-deep.ensures ∙ ap (machine.is_too_deep (meant c.args.symbol)) c.depth.ensures) c.settled.ensures

pub returns-clause-refused : goal.returns-clause-refused
returns-clause-refused c =
    settled_refusal (script_state c.step.new.self) machine.step_script machine.wanted_script machine.depth_script (script_state c.args.parts.now c.args.reached) (meant c.args.symbol)
    c.step.result c.is_too_deep-deep.result c.args.place c.wanted-kind.result c.settled.result c.step.ensures
    (c.is_too_deep-deep.ensures ∙ ap (machine.is_too_deep (meant c.args.symbol)) c.depth.ensures) c.wanted-kind.ensures c.settled.ensures
