use Rattle.std.proofs.Common.{rules, ◌≡◌, ◌≤◌, ◌<◌, ℕ, false, not, nat_eq, IsTrue, IsSomeAnd, refl, sym, ap, subst, arith, true≢false}
use Rattle.std.proofs.lemmas.Bool.{and_from, eq-eqb}
use Rattle.flow_model.specs.Run.{Claim, is_current, IsCurrent}
use Rattle.flow_residual.specs.declared.given.Given.{Given}
use Rattle.flow_core.specs.Run.{Run, now}
use Rattle.flow_core.specs.Claim.{IsGiven}
use Rattle.flow_core.proofs.Entries.{ended_inside}
use Rattle.flow_core.proofs.run.Core.standing.Goals as goal

current_given : (r : Run) (n : ℕ) (given : Given) → IsGiven r n given → given.answered ≡ false → (epoch : ℕ) → epoch ≡ (now r).epoch → epoch ≤ given.epoch → IsCurrent (now r) n
current_given r n given g free epoch is low =
    let high : given.epoch ≤ (now r).epoch = g.epoch in
    subst (λ o. IsSomeAnd o (λ (claim : Claim). IsTrue (is_current (now r) claim))) (sym g.claim)
    (and_from (not given.answered) (nat_eq given.epoch (now r).epoch) (ap not free) (eq-eqb given.epoch (now r).epoch (omega arith)))

pub returns-then-given : goal.returns-then-given
returns-then-given c =
    let going = ended_inside c.self.inside c.self.invariant c.args.self.now c.self.view_is false c.if-self.false in
    (going, subst (λ o. IsSomeAnd o (λ (claim : Claim). IsTrue claim.answered)) (sym c.in-Some.ensures.claim) c.if-given.true, refl)

pub returns-then-not-has_steps : goal.returns-then-not-has_steps
returns-then-not-has_steps c =
    let going = ended_inside c.self.inside c.self.invariant c.args.self.now c.self.view_is false c.if-self.false in
    let unanswered = subst (λ o. IsSomeAnd o (λ (claim : Claim). claim.answered ≡ false)) (sym c.in-Some.ensures.claim) c.if-given.false in
    (going, unanswered, (λ left. true≢false (sym (c.if-not-has_steps.ensures.1 left)), ap (λ (r : Run). r.limit) c.self.view_is), refl)

pub returns-then-given-now : goal.returns-then-given-now
returns-then-given-now c =
    let going = ended_inside c.self.inside c.self.invariant c.args.self.now c.self.view_is false c.if-self.false in
    let late = subst (λ o. IsSomeAnd o (λ (claim : Claim). (claim.answered ≡ false) × (claim.epoch ≡ c.in-Some.given.epoch))) (sym c.in-Some.ensures.claim) (c.if-given.false, refl) in
    (going, c.if-not-has_steps.ensures.0 refl, (subst (λ e. c.in-Some.given.epoch < e) c.epoch-now.ensures c.if-given-now.true, late), c.epoch-now.ensures, (search rules depth 1 parts 0 fits 100))

pub returns : goal.returns
returns c =
    let going = ended_inside c.self.inside c.self.invariant c.args.self.now c.self.view_is false c.if-self.false in
    let current = current_given c.args.self.now c.args.claim c.in-Some.given c.in-Some.ensures c.if-given.false c.epoch-now.result c.epoch-now.ensures c.if-given-now.false in
    (going, c.if-not-has_steps.ensures.0 refl, current, c.in-Some.ensures, refl)
