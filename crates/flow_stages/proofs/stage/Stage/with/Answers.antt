use Rattle.std.proofs.Common.{ap, ◌∙◌}
use Rattle.flow_model.specs.Facts.{state_with}
use Rattle.flow_stages.specs.Stages.{state_after}
use Rattle.flow_stages.proofs.StageLemmas.{stage_with}
use Rattle.flow_stages.proofs.stage.Stage.with.Goals as goal

pub returns : goal.returns
returns c = λ w list at was.
    stage_with w list c.args.leaf c.args.label c.args.self.now _ at was c.insert.ensures
    (λ f. c.in_ok-held.ensures f ∙ ap (λ l. state_after c.args.label (state_with l) f) c.deref.ensures.value)
