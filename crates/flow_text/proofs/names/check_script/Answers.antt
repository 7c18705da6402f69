use Rattle.std.proofs.Common.{ap, sym, ◌∙◌, subst, ◌≡◌, map}
use Rattle.std.specs.Prelude.{Some}
use Rattle.std.specs.List.{position_from}
use Rattle.flow_form.specs.Script.{said, declared}
use Rattle.flow_text.specs.Named.{roles_of}
use Rattle.flow_text.specs.KnownNames.{KnowsThose}
use Rattle.flow_text.proofs.FirstNames.{not_err, not_repeated, not_unknown, same_repeated, same_unknown, found_repeated, script_repeated, script_unknown, script_good, is_other, none_of}
use Rattle.flow_text.proofs.names.check_script.Goals as goal

pub returns-in-Some-clause-repeated : goal.returns-in-Some-clause-repeated
returns-in-Some-clause-repeated c = λ k e.
    let same : c.in-Some.index ≡ k = same_repeated _ k e in
    script_repeated (said c.args.script.now) c.in_ok-known.known (roles_of c.deref-2.result.now) k (ap roles_of c.deref-2.ensures.value ∙ c.in_ok-list.ensures)
    (sym c.in_ok-index.ensures ∙ c.in-Some.is ∙ ap Some same)

pub returns-in-Some-first_unknown-clause-unknown : goal.returns-in-Some-first_unknown-clause-unknown
returns-in-Some-first_unknown-clause-unknown c = λ k e.
    let same : c.in-Some-first_unknown.index ≡ k = same_unknown _ k e in
    script_unknown (said c.args.script.now) c.in_ok-known.known (roles_of c.in_ok-list.list.items) k c.in_ok-list.ensures
    (subst (λ z. KnowsThose (map declared z) c.in_ok-known.known) c.deref.ensures.value c.in_ok-known.ensures)
    (ap (λ z. found_repeated c.in_ok-known.known (roles_of z)) (sym c.deref-2.ensures.value) ∙ sym c.in_ok-index.ensures ∙ none_of c.in_ok-index.field-0 c.in_default.not-Some)
    (ap (λ z. position_from (is_other c.in_ok-known.known) 0 (roles_of z)) (sym c.deref-3.ensures.value) ∙ sym c.first_unknown.ensures ∙ c.in-Some-first_unknown.is ∙ ap Some same)

pub returns-clause-ok : goal.returns-clause-ok
returns-clause-ok c =
    script_good (said c.args.script.now) c.in_ok-known.known (roles_of c.in_ok-list.list.items) c.in_ok-list.ensures
    (subst (λ z. KnowsThose (map declared z) c.in_ok-known.known) c.deref.ensures.value c.in_ok-known.ensures)
    (ap (λ z. found_repeated c.in_ok-known.known (roles_of z)) (sym c.deref-2.ensures.value) ∙ sym c.in_ok-index.ensures ∙ none_of c.in_ok-index.field-0 c.in_default.not-Some)
    (ap (λ z. position_from (is_other c.in_ok-known.known) 0 (roles_of z)) (sym c.deref-3.ensures.value)
    ∙ sym c.first_unknown.ensures ∙ none_of c.first_unknown.result c.in_default-first_unknown.not-Some)

pub returns-clause-repeated : goal.returns-clause-repeated
returns-clause-repeated c = λ k e. absurd (not_err _ e)

pub returns-clause-unknown : goal.returns-clause-unknown
returns-clause-unknown c = λ k e. absurd (not_err _ e)

pub returns-in-Some-first_unknown-clause-repeated : goal.returns-in-Some-first_unknown-clause-repeated
returns-in-Some-first_unknown-clause-repeated c = λ k e. absurd (not_repeated _ k e)

pub returns-in-Some-clause-unknown : goal.returns-in-Some-clause-unknown
returns-in-Some-clause-unknown c = λ k e. absurd (not_unknown _ k e)
