use Rattle.std.proofs.Common.{ap, ◌∙◌}
use Rattle.flow_grammar.specs.Grammar.{gather, list, rules}
use Rattle.flow_grammar.specs.Machine as machine
use Rattle.flow_reader.proofs.rule_levels.RuleLevel.closed.Goals as goal

pub returns : goal.returns
returns c = c.gathered.ensures ∙ ap (λ (l : machine.RuleLevel). gather (list rules 1) l.anys) c.in_ok-close_all.ensures
