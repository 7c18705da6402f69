use Rattle.std.proofs.Common.{◌≡◌, ◌<◌, ◌∙◌, false, IsSomeAnd, length, sym, ap, subst, true≢false}
use Rattle.flow_model.specs.Run.{Claim}
use Rattle.flow_core.specs.Run.{Run, schema, now}
use Rattle.flow_core.proofs.Calls.{given_call, kind_below}
use Rattle.flow_core.proofs.run.Core.call_of.Goals as goal

pub returns-in_err-given : goal.returns-in_err-given
returns-in_err-given c =
    rw c.from_residual.ensures (λ unanswered. subst (λ o. IsSomeAnd o (λ (claim : Claim). claim.answered ≡ false)) c.in_err-given.ensures unanswered)

pub returns-then-given : goal.returns-then-given
returns-then-given c unanswered =
    let given = c.in_ok-given.ensures in
    true≢false (sym c.if-given.true ∙ subst (λ o. IsSomeAnd o (λ (claim : Claim). claim.answered ≡ false)) given.claim unanswered)

pub returns : goal.returns
returns c =
    let r = c.args.self.now in
    let given = c.in_ok-given.ensures in (
      subst (λ o. IsSomeAnd o (λ (claim : Claim). claim.answered ≡ false)) (sym given.claim) c.if-given.false,
      given_call (schema r) (now r) c.args.claim c.in_ok-given.given c.notes.result.now given.claim given.event given.attempt
          (c.notes.ensures.notes ∙ ap (λ (r : Run). (schema r).notes) c.self.view_is),
    )

pub bounds-notes-given : goal.bounds-notes-given
bounds-notes-given c =
    let given = c.in_ok-given.given in
    let at = rw (← c.self.view_is) at c.in_ok-given.ensures.event in
    subst (λ n. given.event < n) (sym (ap length c.notes.ensures.notes ∙ c.self.invariant.kept.noted)) (kind_below c.self.inside c.self.invariant given.leaf given.event at)
