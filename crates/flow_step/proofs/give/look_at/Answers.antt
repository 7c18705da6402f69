use Rattle.std.proofs.Common.{refl, subst}
use Rattle.flow_model.specs.Verdict.{AreJust}
use Rattle.flow_core.specs.Run.{Run}
use Rattle.flow_core.specs.Next.{CanAct}
use Rattle.flow_reply.specs.Look.{IsShown}
use Rattle.flow_step.proofs.GrowthLemmas.{grown_still}
use Rattle.flow_step.proofs.give.look_at.Goals as goal

pub returns : goal.returns
returns g c = λ by. (
  c.look_ahead.new.self,
  c.look_ahead.ensures.same,
  refl,
  grown_still _ _ _ c.look_ahead.ensures.run c.core.ensures c.history.ensures.lawful,
  subst (λ (r : Run). IsShown r c.args.look c.in_ok-reply.reply.items) c.core-2.ensures c.in_ok-reply.ensures,
  subst (λ (r : Run). AreJust (CanAct r) c.in_ok-enabled.field-0.items) c.core-3.ensures c.in_ok-enabled.ensures,
)
