use Rattle.std.proofs.Common.{◌≡◌, ◌+◌, subst, sym, ap, ◌∙◌, arith, refl}
use Rattle.flow_residual.specs.Remaining.{IsOf, IsAvoidable}
use Rattle.flow_residual.specs.Claimed.{Claimed}
use Rattle.flow_core.specs.Run.{schema, now}
use Rattle.flow_core.specs.Invariant.{run_by}
use Rattle.flow_core.proofs.Steps.{kept_switched}
use Rattle.flow_core.proofs.Entries.{unanswered_inside, next_inside, epoch_below, entered}
use Rattle.flow_core.proofs.run.Core.record_switched.Goals as goal

pub answer-requires : goal.answer-requires
answer-requires c = unanswered_inside c.self.inside c.self.invariant c.args.self.now c.self.view_is c.args.claim c.requires.current

pub ban-requires : goal.ban-requires
ban-requires c = next_inside c.self.inside c.self.invariant c.args.self.now c.self.view_is c.args.claim c.args.leaf c.requires.current c.requires.leaf

pub raise-requires : goal.raise-requires
raise-requires c =
    let below = epoch_below c.self.inside c.self.invariant c.args.self.now c.self.view_is c.requires.steps in
    let same : c.answer.new.self.epoch ≡ c.self.inside.claims.epoch = ap (λ (x : Claimed). x.epoch) c.answer.ensures in
    omega arith

pub invariant_of-self : goal.invariant_of-self
invariant_of-self c =
    let i = c.self.inside in
    let on = rw (← c.self.view_is) at c.requires.leaf in
    let current = rw (← c.self.view_is) at c.requires.current in
    let avoidable = subst (IsAvoidable (schema (run_by i)) (now (run_by i))) (sym on) (rw (← c.self.view_is) at c.requires.avoidable) in
    entered i c.self.invariant c.args.self.now c.self.view_is _ c.args.by _ refl refl c.enter.ensures.unlooked c.enter.ensures.items c.enter.ensures.capacity c.requires.open c.requires.steps
    (λ going room. rw c.ban.ensures (kept_switched i c.self.invariant going room c.args.by c.args.claim c.args.leaf c.raise.new.self (current, avoidable) on (
      λ w s a b f. c.raise.ensures.claims w s (a ∙ sym (ap (λ (x : Claimed). x.claims) c.answer.ensures)) (b ∙ sym (ap (λ (x : Claimed). x.epoch) c.answer.ensures))
          (subst (IsOf w s) (sym c.ban.ensures) f),
      c.raise.ensures.others ∙ ap (λ (x : Claimed). record x { claims = c.raise.new.self.claims; epoch = x.epoch + 1 }) c.answer.ensures,
    )))
