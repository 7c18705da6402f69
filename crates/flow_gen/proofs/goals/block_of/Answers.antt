use Rattle.std.proofs.Common.{refl, ap, sym, ◌∙◌}
use Rattle.flow_form.specs.Form.{beside, either, shapes}
use Rattle.flow_gen.specs.Generated.{block}
use Rattle.flow_form.proofs.Shapes.{shape_of-Beside, shape_of-Either}
use Rattle.flow_gen.proofs.goals.block_of.Goals as goal

pub returns-in_ok-halves-in-Beside : goal.returns-in_ok-halves-in-Beside
returns-in_ok-halves-in-Beside c = shape_of-Beside _ c.in_ok-halves-in-Beside.field-0 _ refl refl ∙ ap (λ ss. beside (shapes ss)) c.in_ok-halves-in-Beside.ensures ∙ ap (block c.args.first) (sym c.in-Beside.is)

pub returns-in_ok-halves-in-IsolatedBeside : goal.returns-in_ok-halves-in-IsolatedBeside
returns-in_ok-halves-in-IsolatedBeside c = shape_of-Beside _ c.in_ok-halves-in-IsolatedBeside.field-0 _ refl refl ∙ ap (λ ss. beside (shapes ss)) c.in_ok-halves-in-IsolatedBeside.ensures ∙ ap (block c.args.first) (sym c.in-IsolatedBeside.is)

pub returns-in_ok-halves-in-Either : goal.returns-in_ok-halves-in-Either
returns-in_ok-halves-in-Either c = shape_of-Either _ c.in_ok-halves-in-Either.field-0 _ refl refl ∙ ap (λ ss. either (shapes ss)) c.in_ok-halves-in-Either.ensures ∙ ap (block c.args.first) (sym c.in-Either.is)
