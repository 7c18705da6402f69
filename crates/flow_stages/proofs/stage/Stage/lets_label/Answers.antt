use Rattle.std.proofs.Common.{sym, ap, subst, ◌∙◌}
use Rattle.flow_model.specs.Facts.{state_with, Holds}
use Rattle.flow_stages.proofs.stage.Stage.lets_label.Goals as goal

pub returns-in-Test : goal.returns-in-Test
returns-in-Test c =
    let s = state_with c.args.self.now.held.items in
    let told = c.contains.ensures.value ∙ ap (λ l. state_with l c.in-Test.fact) c.deref.ensures.value in
    (λ h. subst (Holds s) (sym c.in-Test.is) (sym told ∙ h), λ h. told ∙ subst (Holds s) c.in-Test.is h)
