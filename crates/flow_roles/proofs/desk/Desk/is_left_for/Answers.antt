use Rattle.std.proofs.Common.{◌≡◌, ◌∙◌, ◌↔◌, ℕ, Bool, true, false, not, Option, None, Some, MatchOption, IsTrue, is_some, refl, sym, subst, ap, true≢false}
use Rattle.flow_model.specs.declared.history.Step.{Step}
use Rattle.flow_model.specs.Facts.{event_at}
use Rattle.flow_model.proofs.MadeLists.{some_same}
use Rattle.flow_workflow.specs.Definition.{Definition, schema_of}
use Rattle.flow_core.specs.Run.{schema}
use Rattle.flow_roles.specs.declared.refusal.Denied.{Denied}
use Rattle.flow_roles.specs.Desked.{Desked}
use Rattle.flow_roles.specs.Answers.{IsLeftTo, IsDenied}
use Rattle.flow_roles.specs.Ask.{IsLeftFor}
use Rattle.flow_roles.proofs.SingleLemmas.{denied_or_left}
use Rattle.flow_roles.proofs.desk.Desk.is_left_for.Goals as goal

-- duties leave the event to the user exactly where none keeps it from him
left_where : (d : Desked) (by event : ℕ) (denied : Option Denied) (none : Bool) → MatchOption denied (IsLeftTo d by event) (IsDenied d by event) →
    is_some denied ≡ not none → IsTrue none ↔ IsLeftTo d by event
left_where d by event None true left same = (λ yes. left, λ left. refl)
left_where d by event None false left same = absurd (true≢false (sym same))
left_where d by event (Some why) true is same = absurd (true≢false same)
left_where d by event (Some why) false is same = (λ no. absurd (true≢false (sym no)), λ left. absurd (denied_or_left d by event why is left))

pub returns-in-Some : goal.returns-in-Some
returns-in-Some c =
    let d : Desked = c.args.self.now in
    let by = c.args.entry.by in
    let at : event_at (schema d.run).labels c.in-Took.leaf ≡ Some c.in-Some.event =
    sym (ap (λ (d : Desked). event_at (schema d.run).labels c.in-Took.leaf) c.self.view_is)
    ∙ sym (ap (λ (w : Definition). event_at (schema_of w).labels c.in-Took.leaf) c.workflow.ensures)
    ∙ sym (λ i. event_at (c.tree.ensures.tree i).labels c.in-Took.leaf)
    ∙ sym c.in-Some.ensures in
    let to = left_where d by c.in-Some.event c.denial.result c.is_none.result c.denial.ensures c.is_none.ensures in (
      (λ none. subst (λ (s : Step). IsLeftFor d by s) (sym c.in-Took.is) (c.in-Some.event, at, to.0 none)),
      (λ left.
          let (event, there, free) = subst (λ (s : Step). IsLeftFor d by s) c.in-Took.is left in
          to.1 (subst (λ (e : ℕ). IsLeftTo d by e) (some_same event c.in-Some.event (sym there ∙ at)) free)),
    )
