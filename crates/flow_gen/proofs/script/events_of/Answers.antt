use Rattle.std.proofs.Common.{arith}
use Rattle.flow_model.specs.declared.labels.Note.TheVariants.{Done}
use Rattle.flow_form.specs.Script.{declared, event}
use Rattle.flow_gen.specs.Generated.{event_name}
use Rattle.flow_gen.proofs.Steps.{numbered}
use Rattle.flow_gen.proofs.script.events_of.Goals as goal

pub loop-number-preserved : goal.loop-number-preserved
loop-number-preserved c =
    numbered declared (λ k. event (event_name k) Done) _ _ _ _ _ _ (omega arith) c.in_ok-push.ensures.items c.in_ok-declare.ensures c.loop-number.invariant
