use Rattle.std.proofs.Common.{◌≡◌, ◌↔◌, ◌∙◌, ℕ, Bool, false, List, IsTrue, subst, sym, ap}
use Rattle.flow_model.specs.declared.history.FailEffect.TheVariants as effects
use Rattle.flow_model.specs.declared.history.Step.TheVariants.{Failed}
use Rattle.flow_model.specs.Lists.{◌∈◌}
use Rattle.flow_model.specs.Run.{leaf_of_claim, IsCurrent, IsFree}
use Rattle.flow_residual.specs.Remaining.{IsAvoidable}
use Rattle.flow_laws.proofs.ClaimLemmas.{leaf_of_claim_is}
use Rattle.flow_residual.specs.declared.given.Given.{Given}
use Rattle.flow_core.specs.Run.{Run, schema, now, with_entry, IsUncommitted, HasEntryLeft}
use Rattle.flow_core.specs.Claim.{IsGiven}
use Rattle.flow_core.proofs.GivenClaims.{claim_needed}
use Rattle.flow_core.proofs.run.Core.fail.Goals as goal

-- every execution that may go on needs the claim's leaf, where none avoids it
is_needed : (r r' : Run) (claim : ℕ) (given : Given) → IsGiven r claim given → r' ≡ r → (b : Bool) → IsTrue b ↔ IsAvoidable (schema r') (now r') given.leaf → b ≡ false →
    (t : List ℕ) → IsFree (schema r') (now r') t → leaf_of_claim (now r') claim ∈ t
is_needed r r' claim given g same b says none t free =
    let on : leaf_of_claim (now r') claim ≡ given.leaf = ap (λ (r : Run). leaf_of_claim (now r) claim) same ∙ leaf_of_claim_is (now r) claim _ g.claim in
    claim_needed (schema r') (now r') claim given.leaf b on says none t free

-- some execution goes on without the claim's leaf, where one does without the leaf of what was given
is_avoided : (r r' : Run) (claim : ℕ) (given : Given) → IsGiven r claim given → r' ≡ r → IsAvoidable (schema r') (now r') given.leaf →
    IsAvoidable (schema r) (now r) (leaf_of_claim (now r) claim)
is_avoided r r' claim given g same avoidable =
    subst (IsAvoidable (schema r) (now r)) (sym (leaf_of_claim_is (now r) claim _ g.claim)) (subst (λ (r : Run). IsAvoidable (schema r) (now r) given.leaf) same avoidable)

pub record_switched-requires-clause-open : goal.record_switched-requires-clause-open
record_switched-requires-clause-open c = subst IsUncommitted (sym c.in_ok-given.ensures.4) c.in_ok-given.ensures.0

pub record_switched-requires-clause-steps : goal.record_switched-requires-clause-steps
record_switched-requires-clause-steps c = subst HasEntryLeft (sym c.in_ok-given.ensures.4) c.in_ok-given.ensures.1

pub record_switched-requires-clause-current : goal.record_switched-requires-clause-current
record_switched-requires-clause-current c = subst (λ (r : Run). IsCurrent (now r) c.args.claim) (sym c.in_ok-given.ensures.4) c.in_ok-given.ensures.2

pub record_switched-requires-clause-leaf : goal.record_switched-requires-clause-leaf
record_switched-requires-clause-leaf c =
    let h = c.in_ok-given.ensures in
    ap (λ (r : Run). leaf_of_claim (now r) c.args.claim) h.4 ∙ leaf_of_claim_is (now c.args.self.now) c.args.claim _ h.3.claim

pub record_kept-requires-clause-open : goal.record_kept-requires-clause-open
record_kept-requires-clause-open c = subst IsUncommitted (sym c.in_ok-given.ensures.4) c.in_ok-given.ensures.0

pub record_kept-requires-clause-steps : goal.record_kept-requires-clause-steps
record_kept-requires-clause-steps c = subst HasEntryLeft (sym c.in_ok-given.ensures.4) c.in_ok-given.ensures.1

pub record_kept-requires-clause-current : goal.record_kept-requires-clause-current
record_kept-requires-clause-current c = subst (λ (r : Run). IsCurrent (now r) c.args.claim) (sym c.in_ok-given.ensures.4) c.in_ok-given.ensures.2

pub record_kept-requires-clause-needed : goal.record_kept-requires-clause-needed
record_kept-requires-clause-needed c =
    let h = c.in_ok-given.ensures in
    is_needed c.args.self.now c.standing.new.self c.args.claim c.in_ok-given.given h.3 h.4 c.can_avoid.result c.can_avoid.ensures c.if-can_avoid.false

pub returns-else-can_avoid : goal.returns-else-can_avoid
returns-else-can_avoid c =
    let h = c.in_ok-given.ensures in
    let needed = subst (λ (r : Run). (t : List ℕ) → IsFree (schema r) (now r) t → leaf_of_claim (now r) c.args.claim ∈ t) h.4
    (is_needed c.args.self.now c.standing.new.self c.args.claim c.in_ok-given.given h.3 h.4 c.can_avoid.result c.can_avoid.ensures c.if-can_avoid.false) in
    (h.0, h.1, h.2, needed, c.record_kept.ensures ∙ ap (λ (r : Run). with_entry r c.args.by (Failed c.args.claim effects.Kept)) h.4)

pub record_switched-requires-clause-avoidable : goal.record_switched-requires-clause-avoidable
record_switched-requires-clause-avoidable c = c.can_avoid.ensures.0 c.if-can_avoid.true

pub returns-then-can_avoid : goal.returns-then-can_avoid
returns-then-can_avoid c =
    let h = c.in_ok-given.ensures in
    let avoided = is_avoided c.args.self.now c.standing.new.self c.args.claim c.in_ok-given.given h.3 h.4 (c.can_avoid.ensures.0 c.if-can_avoid.true) in
    (h.0, h.1, h.2, avoided, c.record_switched.ensures ∙ ap (λ (r : Run). with_entry r c.args.by (Failed c.args.claim effects.Switched)) h.4)
