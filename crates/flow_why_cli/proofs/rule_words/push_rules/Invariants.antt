use Rattle.std.proofs.Common.{◌≡◌, ◌++◌, drop, map}
use Rattle.flow_why_cli.specs.Rules.{rule_of, rules_of}
use Rattle.flow_why_cli.proofs.rule_words.push_rules.Given as goal

abbrev pub invariant-loop-number : goal.invariant-loop-number
invariant-loop-number l =
    map rule_of l.rules.items ++ rules_of l.text (drop l.number l.tokens) ≡ map rule_of l.initial.rules.items ++ rules_of l.text l.tokens
