use Rattle.std.proofs.lemmas.List.{nil_from_length}
use Rattle.flow_case.specs.declared.split.Side.TheVariants.{Begins}
use Rattle.flow_case.specs.Split.{rule_tokens}
use Rattle.flow_case.proofs.TokenSteps.{left_token}
use Rattle.flow_case.proofs.SplitSteps.{cut_whole, rules_span, rules_small}
use Rattle.flow_case.proofs.split.rule_tokens.Goals as goal

pub symbol_of-symbol-requires-clause-within : goal.symbol_of-symbol-requires-clause-within
symbol_of-symbol-requires-clause-within c =
    (left_token c.args.text.now c.loop-token.rest.now c.in-Some.more.now c.in-Some.token.now c.in-Some.ensures.cases.0 c.loop-token.invariant.0).1

pub returns-clause-spans : goal.returns-clause-spans
returns-clause-spans c =
    let none = nil_from_length c.loop-token.rest.now c.in_default.ensures.cases in
    let text = c.args.text.now in
    rules_span text Begins c.args.tokens.now c.loop-token.cut.items c.requires.spans
    (cut_whole text (rule_tokens text Begins c.args.tokens.now) c.loop-token.cut.items c.loop-token.side c.loop-token.rest.now none c.loop-token.invariant.1)

pub returns-clause-small : goal.returns-clause-small
returns-clause-small c =
    let none = nil_from_length c.loop-token.rest.now c.in_default.ensures.cases in
    let text = c.args.text.now in
    rules_small text Begins c.args.tokens.now c.loop-token.cut.items c.requires.small
    (cut_whole text (rule_tokens text Begins c.args.tokens.now) c.loop-token.cut.items c.loop-token.side c.loop-token.rest.now none c.loop-token.invariant.1)
