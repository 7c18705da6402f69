use Rattle.std.proofs.Common.{◌≡◌, ◌∙◌, ◌↔◌, ◌&&◌, ℕ, Bool, not, nat_eq, IsTrue, IsSomeAnd, sym, ap, subst, true≢false}
use Rattle.flow_model.specs.Run.{Claim, is_current, IsCurrent}
use Rattle.flow_residual.specs.declared.given.Given.{Given}
use Rattle.flow_residual.specs.Claimed.{Claimed, run_of, IsGivenAt}
use Rattle.flow_residual.proofs.claims.Claims.is_current.Goals as goal

-- whether a claim that was given is current is told by its record
told_current : (v : Claimed) (number : ℕ) (given : Given) → IsGivenAt v number given → (b : Bool) → b ≡ (not given.answered && nat_eq given.epoch v.epoch) →
    IsTrue b ↔ IsCurrent (run_of v) number
told_current v number given g b is =
    subst (λ o. IsTrue b ↔ IsSomeAnd o (λ (claim : Claim). IsTrue (is_current (run_of v) claim))) (sym g.claim) ((λ yes. sym is ∙ yes), (λ yes. is ∙ yes))

pub returns-in-None : goal.returns-in-None
returns-in-None c = (
  λ yes. absurd (true≢false (sym yes)),
  λ current. absurd (subst (λ o. IsSomeAnd o (λ (claim : Claim). IsTrue (is_current (run_of c.args.self.now) claim))) c.in-None.ensures current),
)

pub returns-then-not-given : goal.returns-then-not-given
returns-then-not-given c =
    let g = c.in-Some.given in
    let epoch = ap (λ (v : Claimed). nat_eq g.epoch v.epoch) c.self.view_is in
    told_current c.args.self.now c.args.claim g c.in-Some.ensures _ (epoch ∙ sym (ap (λ b. b && nat_eq g.epoch c.args.self.now.epoch) c.if-not-given.true))

pub returns-else-not-given : goal.returns-else-not-given
returns-else-not-given c =
    let g = c.in-Some.given in
    told_current c.args.self.now c.args.claim g c.in-Some.ensures _ (c.if-not-given.false ∙ sym (ap (λ b. b && nat_eq g.epoch c.args.self.now.epoch) c.if-not-given.false))
