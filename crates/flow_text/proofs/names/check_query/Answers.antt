use Rattle.std.proofs.Common.{ap, sym, ◌∙◌, subst, ◌≡◌, map}
use Rattle.std.specs.Prelude.{Some}
use Rattle.flow_form.specs.Script.{said, asked, declared}
use Rattle.flow_text.specs.Named.{roles_of}
use Rattle.flow_text.specs.KnownNames.{KnowsThose}
use Rattle.flow_text.proofs.FirstNames.{not_err, not_repeated, same_unknown, query_unknown, query_good}
use Rattle.flow_text.proofs.names.check_query.Goals as goal

pub returns-in-Some-clause-unknown : goal.returns-in-Some-clause-unknown
returns-in-Some-clause-unknown c = λ k e.
    let same : c.in-Some.index ≡ k = same_unknown _ k e in
    query_unknown (asked c.args.query.now) (said c.args.script.now) c.in_ok-known.known (roles_of c.deref-2.result.now) k
    (ap roles_of c.deref-2.ensures.value ∙ c.in_ok-list.ensures)
    (subst (λ z. KnowsThose (map declared z) c.in_ok-known.known) c.deref.ensures.value c.in_ok-known.ensures)
    (sym c.first_unknown.ensures ∙ c.in-Some.is ∙ ap Some same)

pub returns-clause-ok : goal.returns-clause-ok
returns-clause-ok c =
    query_good (asked c.args.query.now) (said c.args.script.now) c.in_ok-known.known (roles_of c.deref-2.result.now)
    (ap roles_of c.deref-2.ensures.value ∙ c.in_ok-list.ensures)
    (subst (λ z. KnowsThose (map declared z) c.in_ok-known.known) c.deref.ensures.value c.in_ok-known.ensures)
    (sym c.first_unknown.ensures ∙ c.in-None.is)

pub returns-clause-unknown : goal.returns-clause-unknown
returns-clause-unknown c = λ k e. absurd (not_err _ e)

pub returns-in-Some-clause-never_repeated : goal.returns-in-Some-clause-never_repeated
returns-in-Some-clause-never_repeated c = λ k e. not_repeated _ k e

pub returns-clause-never_repeated : goal.returns-clause-never_repeated
returns-clause-never_repeated c = λ k e. not_err _ e
