use Rattle.std.proofs.Common.{◌≡◌, ◌∙◌, [], false, inl, inr, refl, sym, subst, true≢false}
use Rattle.flow_model.specs.Schema.{IsGood}
use Rattle.flow_model.specs.Run.{current_claims}
use Rattle.flow_laws.proofs.NeverAtALoss.{CanGoOn, goes_on}
use Rattle.flow_core.specs.Run.{Run, schema, now}
use Rattle.flow_core.proofs.Entries.{ended_inside}
use Rattle.flow_core.proofs.Steps.{sound_now}
use Rattle.flow_core.proofs.NextLemmas.{least_waits}
use Rattle.flow_core.proofs.run.Core.look.Goals as goal

pub returns-in-Some : goal.returns-in-Some
returns-in-Some c =
    let going = ended_inside c.self.inside c.self.invariant c.args.self.now c.self.view_is false c.if-self.false in
    let least = c.in-Some.ensures in
    ((going, least.0), λ other can. least.1 other can.1)

pub returns-in-Some-least_claim : goal.returns-in-Some-least_claim
returns-in-Some-least_claim c =
    let going = ended_inside c.self.inside c.self.invariant c.args.self.now c.self.view_is false c.if-self.false in
    (going, (λ leaf can. c.in_default.ensures leaf can.1), c.in-Some-least_claim.ensures)

pub returns-then-is_complete : goal.returns-then-is_complete
returns-then-is_complete c =
    let going = ended_inside c.self.inside c.self.invariant c.args.self.now c.self.view_is false c.if-self.false in
    (going, (λ leaf can. c.in_default.ensures leaf can.1), c.in_default-least_claim.ensures, c.if-is_complete.ensures.0 refl)

pub returns : goal.returns
returns c =
    let going = ended_inside c.self.inside c.self.invariant c.args.self.now c.self.view_is false c.if-self.false in
    least_waits c.args.self.now going c.in_default.ensures c.in_default-least_claim.ensures
    (λ good. true≢false (sym (c.is_complete.ensures.1 good) ∙ c.if-is_complete.false)) c.in-Some-least_left.leaf c.in-Some-least_left.ensures

-- a run with no claim out and an unfinished journal has a leaf to go on with
pub unreachable-requires : goal.unreachable-requires
unreachable-requires c =
    let on : CanGoOn (schema c.args.self.now) (now c.args.self.now) =
    subst (λ (r : Run). current_claims (now r) ≡ [] → ¬ (IsGood (schema r) (now r).journal) → CanGoOn (schema r) (now r)) c.self.view_is
    (λ none unfinished. goes_on _ c.self.invariant.kept.remains.well_formed _ (sound_now c.self.inside c.self.invariant) unfinished none)
    c.in_default-least_claim.ensures (λ good. true≢false (sym (c.is_complete.ensures.1 good) ∙ c.if-is_complete.false)) in
    elim on.1 [ inl can ↦ c.in_default.ensures on.0 (inl can) | inr aside ↦ c.in-None.ensures on.0 aside ]
