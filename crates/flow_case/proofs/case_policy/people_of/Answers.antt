use Rattle.std.proofs.Common.{◌≡◌, Ok, map, sym, ap, ◌∙◌}
use Rattle.std.proofs.lemmas.Result.{IfErr-weaker}
use Rattle.std.specs.List.{flat_map}
use Rattle.flow_policy.specs.Policy.{memberships, users_of}
use Rattle.flow_case.specs.Givens.{said, IsNamesRefusal}
use Rattle.flow_case.specs.RulesOf.{AreRulesOf, roles_in}
use Rattle.flow_case.specs.CasePolicy.{ArePeopleOf, IsPeopleRefusal}
use Rattle.flow_case.proofs.CaseLemmas.{both_ok, people_are, people_unknown}
use Rattle.flow_case.proofs.case_policy.people_of.Goals as goal

pub returns-clause-ok : goal.returns-clause-ok
returns-clause-ok c = λ statements says.
    let events = c.args.workflow.now.events in
    let given = map said c.deref.result.now in
    let read = c.in_ok-given.ensures.ok ∙ ap (λ l. Ok (map said l)) (sym c.deref.ensures.value) in
    both_ok c.people_with.result (λ p. p.users ≡ users_of statements) (λ p. AreRulesOf given (flat_map memberships statements) p.users events p.rules)
    (λ p. ArePeopleOf c.args.text.now c.args.cut.now statements events p.users p.rules)
    (λ p are of. people_are c.args.text.now c.args.cut.now statements events p.users given p.rules read are of)
    (c.people_with.ensures.users statements says) (c.people_with.ensures.rules statements says)

pub returns-clause-refused : goal.returns-clause-refused
returns-clause-refused c = λ statements says.
    let events = c.args.workflow.now.events in
    let given = map said c.deref.result.now in
    let read = c.in_ok-given.ensures.ok ∙ ap (λ l. Ok (map said l)) (sym c.deref.ensures.value) in
    IfErr-weaker c.people_with.result (IsNamesRefusal events (roles_in (flat_map memberships statements)) given)
    (IsPeopleRefusal c.args.text.now c.args.cut.now statements events)
    (λ refusal why. people_unknown c.args.text.now c.args.cut.now statements events given refusal read why)
    (c.people_with.ensures.refused statements says)
