use Rattle.flow_form.specs.Script.{said}
use Rattle.flow_front.proofs.Stops.{told_stop, expansion_stops}
use Rattle.flow_front.proofs.prepared.expand_script.Goals as goal

pub returns-in_err-expand-clause-stop : goal.returns-in_err-expand-clause-stop
returns-in_err-expand-clause-stop c =
    told_stop c.from_residual.result _ _ c.from_residual.ensures.1 (expansion_stops (said c.args.script.now) c.in_err-expand.field-0.0 c.in_err-expand.ensures.refused)
