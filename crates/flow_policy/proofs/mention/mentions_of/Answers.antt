use Rattle.std.proofs.Common.{sym, ◌∙◌}
use Rattle.std.proofs.lemmas.List.{nil_from_length}
use Rattle.flow_policy.proofs.MentionLemmas.{stands_first, stands_next, token_within, stops_at_token, stops_at_end}
use Rattle.flow_policy.proofs.mention.mentions_of.Goals as goal

pub loop-token-init : goal.loop-token-init
loop-token-init c = rw c.new-mentions.ensures.items (stands_first _ _ c.requires.spans c.requires.small)

pub symbol_at-symbol-requires-clause-within : goal.symbol_at-symbol-requires-clause-within
symbol_at-symbol-requires-clause-within c =
    (token_within _ _ _ _ c.loop-token.rest.now c.in-Some.more.now c.in-Some.token.now c.in-Some.ensures.cases.0 c.loop-token.invariant).1

pub returns-in_default-next-clause-refused : goal.returns-in_default-next-clause-refused
returns-in_default-next-clause-refused c =
    stops_at_token _ _ c.loop-token.stage _ _ c.loop-token.rest.now c.in-Some.more.now c.in-Some.token.now c.in-Some.ensures.cases.0 c.symbol_at-symbol.ensures
    (sym c.next.ensures ∙ c.in_default-next.is) c.loop-token.invariant

pub loop-token-preserved : goal.loop-token-preserved
loop-token-preserved c =
    stands_next _ _ c.loop-token.stage c.in-Some-next.next _ _ _ c.loop-token.rest.now c.in-Some.more.now c.in-Some.token.now c.in-Some.ensures.cases.0
    c.symbol_at-symbol.ensures (sym c.in-Some-next.is ∙ c.next.ensures) c.in_ok-add_mention.ensures c.loop-token.invariant

pub returns : goal.returns
returns c =
    let none = nil_from_length c.loop-token.rest.now c.in_default.ensures.cases in
    record {
      ok = tt;
      refused = stops_at_end _ _ c.loop-token.stage _ (λ e. c.in_default-stage.not-StatementNeeded e) (rw none at c.loop-token.invariant);
    }
