use Rattle.std.proofs.Common.{◌≡◌, ◌++◌, drop, true}
use Rattle.flow_why_cli.specs.Rules.{rule_words}
use Rattle.flow_why_cli.proofs.rule_words.push_words.Given as goal

abbrev pub invariant-loop-token : goal.invariant-loop-token
invariant-loop-token l =
    l.words.items ++ rule_words l.text l.joined (drop l.token-index l.tokens) ≡ l.initial.words.items ++ rule_words l.text true l.tokens
