use Rattle.std.proofs.Common.{map}
use Rattle.std.proofs.lemmas.Result.{IfOk-weaker, err_from_is_err_and}
use Rattle.flow_form.specs.Script.{said}
use Rattle.flow_form.specs.Names.{event_names}
use Rattle.flow_policy.specs.Mentions.{said_in}
use Rattle.flow_policy.specs.Numbering.{names_of, AreTablesOf}
use Rattle.flow_policy.proofs.PolicyLemmas.{mentioned}
use Rattle.flow_policy.proofs.policy.policy_from.Goals as goal

pub returns-in_err-draft-clause-refused : goal.returns-in_err-draft-clause-refused
returns-in_err-draft-clause-refused c =
    let p = err_from_is_err_and c.from_residual-in_err-draft.result c.from_residual-in_err-draft.ensures.1 in
    rw (p.1, p.2) (c.in_err-draft.ensures.refused (names_of (map said_in c.args.mentions.now) (event_names (said c.args.script.now).decls))
    (record { users = c.in_ok-staff.ensures.users; roles = c.in_ok-staff.ensures.roles; events = rw c.deref.ensures.value at c.in_ok-events.ensures }))

pub returns-clause-ok : goal.returns-clause-ok
returns-clause-ok c =
    let ms = map said_in c.args.mentions.now in
    let events = event_names (said c.args.script.now).decls in
    let tables : AreTablesOf (names_of ms events) c.in_ok-staff.staff c.in_ok-events.events =
    record { users = c.in_ok-staff.ensures.users; roles = c.in_ok-staff.ensures.roles; events = rw c.deref.ensures.value at c.in_ok-events.ensures } in
    IfOk-weaker c.policy_with.result _ _
    (λ p h. mentioned ms events c.in_ok-staff.staff.users _ p c.in_ok-staff.ensures.users (c.in_ok-draft.ensures.numbered (names_of ms events) tables) (c.in_ok-draft.ensures.listed (names_of ms events) tables) h)
    c.policy_with.ensures.ok
