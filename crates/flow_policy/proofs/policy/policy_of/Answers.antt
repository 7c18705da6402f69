use Rattle.std.proofs.Common.{subst, map}
use Rattle.std.proofs.lemmas.Result.{IfOk-weaker, IfErr-weaker, err_from_is_err_and}
use Rattle.flow_form.specs.Script.{said}
use Rattle.flow_form.specs.Names.{event_names}
use Rattle.flow_policy.specs.Mentions.{said_in, AreMentions, IsReadRefusal}
use Rattle.flow_policy.specs.Numbering.{names_of, IsMentionedIn, IsNumberRefusal}
use Rattle.flow_policy.proofs.PolicyLemmas.{policy_is, number_refusal, read_refusal}
use Rattle.flow_policy.proofs.policy.policy_of.Goals as goal

pub returns-in_err-tokens-clause-refused : goal.returns-in_err-tokens-clause-refused
returns-in_err-tokens-clause-refused c =
    let p = err_from_is_err_and c.from_residual.result c.from_residual.ensures.1 in
    rw (p.1, p.2) (c.in_err-tokens.ensures.refused (said c.args.script.now))

pub returns-in_err-mentions-clause-refused : goal.returns-in_err-mentions-clause-refused
returns-in_err-mentions-clause-refused c =
    let p = err_from_is_err_and c.from_residual-in_err-mentions.result c.from_residual-in_err-mentions.ensures.1 in
    rw (p.1, p.2) (read_refusal c.args.text.now (said c.args.script.now) c.in_ok-tokens.tokens.items c.in_err-mentions.field-0.0 c.in_ok-tokens.ensures.cut
    (subst (λ l. IsReadRefusal c.args.text.now l c.in_err-mentions.field-0.0) c.deref.ensures.value c.in_err-mentions.ensures.refused))

pub returns-clause-ok : goal.returns-clause-ok
returns-clause-ok c =
    let read = subst (λ l. AreMentions c.args.text.now l c.in_ok-mentions.mentions.items) c.deref.ensures.value c.in_ok-mentions.ensures.ok in
    IfOk-weaker c.policy_from.result _ _
    (λ p h. policy_is c.args.text.now (said c.args.script.now) c.in_ok-tokens.tokens.items c.in_ok-mentions.mentions.items p c.in_ok-tokens.ensures.cut read
    (subst (λ l. IsMentionedIn (map said_in l) (event_names (said c.args.script.now).decls) p) c.deref-2.ensures.value h))
    c.policy_from.ensures.ok

pub returns-clause-refused : goal.returns-clause-refused
returns-clause-refused c =
    let read = subst (λ l. AreMentions c.args.text.now l c.in_ok-mentions.mentions.items) c.deref.ensures.value c.in_ok-mentions.ensures.ok in
    IfErr-weaker c.policy_from.result _ _
    (λ e h. number_refusal c.args.text.now (said c.args.script.now) c.in_ok-tokens.tokens.items c.in_ok-mentions.mentions.items e c.in_ok-tokens.ensures.cut read
    (subst (λ l. IsNumberRefusal (names_of (map said_in l) (event_names (said c.args.script.now).decls)) (map said_in l) e) c.deref-2.ensures.value h))
    c.policy_from.ensures.refused
