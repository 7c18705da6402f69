use Rattle.std.proofs.Common.{ap, ◌∙◌}
use Rattle.flow_grammar.specs.Machine as machine
use Rattle.flow_reader.specs.Goals.{level_of}
use Rattle.flow_reader.proofs.Heights.{none_open}
use Rattle.flow_reader.proofs.goals.end_goal.Goals as goal

pub returns : goal.returns
returns c =
    rw (none_open c.args.stack.now.frames.items c.args.stack.now.frames.len c.args.stack.now.frames.ok.0 c.if-not-is_empty.ensures)
    (ap machine.whole (c.in_ok-closed.ensures ∙ ap (λ l. machine.close (level_of l)) c.replace-level.ensures.value))
