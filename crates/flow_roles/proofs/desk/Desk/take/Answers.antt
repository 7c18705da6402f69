use Rattle.std.proofs.Common.{◌≡◌, ℕ, Some, Ok, refl, sym, ◌∙◌, subst, true≢false}
use Rattle.flow_model.specs.Facts.{event_at}
use Rattle.flow_model.proofs.MadeLists.{some_same}
use Rattle.flow_core.specs.Run.{schema}
use Rattle.flow_core.specs.Answers.{next_claim}
use Rattle.flow_roles.specs.Desked.{Desked}
use Rattle.flow_roles.specs.Invariant.{desked_by}
use Rattle.flow_roles.specs.Answers.{IsLeftTo, DeskTakes}
use Rattle.flow_roles.proofs.Dutiful.{took_dutiful}
use Rattle.flow_roles.proofs.SingleLemmas.{denied_or_left}
use Rattle.flow_roles.proofs.desk.Desk.take.Goals as goal

pub invariant_of-self : goal.invariant_of-self
invariant_of-self c =
    let left = subst (λ (d : Desked). IsLeftTo d c.args.by c.in-Ok.event) (sym c.self.view_is) c.in-None.ensures in
    took_dutiful (desked_by c.self.inside) c.args.leaf c.args.by c.in-Ok.event (next_claim c.self.inside.core) c.give.new.self c.in-Ok.ensures.1 left c.self.invariant c.give.ensures.entry

pub returns-in-Some-clause-allowed_exactly : goal.returns-in-Some-clause-allowed_exactly
returns-in-Some-clause-allowed_exactly c = (
  (λ no. absurd (true≢false (sym no))),
  (λ (takeable, (event, at, left)).
      let told = subst (λ (d : Desked). event_at (schema d.run).labels c.args.leaf ≡ Some c.in-Ok.event) c.self.view_is c.in-Ok.ensures.1 in
      let same : event ≡ c.in-Ok.event = some_same event c.in-Ok.event (sym at ∙ told) in
      absurd (denied_or_left c.args.self.now c.args.by c.in-Ok.event c.in-Some.denied c.in-Some.ensures (subst (λ (e : ℕ). IsLeftTo c.args.self.now c.args.by e) same left))),
)

pub returns-in-None-clause-answers : goal.returns-in-None-clause-answers
returns-in-None-clause-answers c =
    let left = subst (λ (d : Desked). IsLeftTo d c.args.by c.in-Ok.event) (sym c.self.view_is) c.in-None.ensures in
    let (going, room, can) = c.in-Ok.ensures.0 in
    subst (λ (d : Desked). DeskTakes d c.args.leaf c.args.by (Ok c.give.result) (record { run = c.give.new.self; assigned = c.self.inside.policy })) c.self.view_is
    ((c.in-Ok.event, c.in-Ok.ensures.1, left), ((going, room, can, c.give.ensures.entry, c.give.ensures.call), refl))
