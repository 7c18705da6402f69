use Rattle.std.proofs.Common.{ap, ◌∙◌}
use Rattle.flow_grammar.specs.Grammar.{gather, list, goals}
use Rattle.flow_grammar.specs.Machine as machine
use Rattle.flow_reader.proofs.goal_stack.Level.closed.Goals as goal

pub returns : goal.returns
returns c = c.gathered.ensures ∙ ap (λ (l : machine.Level). gather (list goals 2) l.eithers) c.in_ok-close_beside.ensures
