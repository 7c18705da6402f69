use Rattle.std.proofs.Common.{◌∷◌, ap, ◌∙◌}
use Rattle.flow_step.proofs.RecordLemmas.{record_there}
use Rattle.flow_step.proofs.record.split_record.Goals as goal

pub returns-in-Some : goal.returns-in-Some
returns-in-Some c = (
  c.in-Some.ensures.0,
  c.in_ok-gate.ensures.cases.0 ∙ ap (λ gate. gate ∷ c.in_ok-gate.rest.now) c.if-gate-ne-OPEN.false
      ∙ record_there c.in-Some.entry c.in_ok-gate.rest.now c.in_ok-body.body.now c.in_ok-body.more.now c.in-Some.ensures.1 c.in_ok-body.ensures.cases.0
      c.in_ok-body.ensures.cases.1,
)
