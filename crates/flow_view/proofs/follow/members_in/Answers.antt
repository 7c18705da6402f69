use Rattle.std.proofs.Common.{List, map, ap, ◌∙◌}
use Rattle.flow_model.specs.declared.operators.Operator.TheVariants as operator
use Rattle.flow_form.specs.declared.form.Form.{Form}
use Rattle.flow_form.specs.Form.{shape_of}
use Rattle.flow_view.specs.Drawn.{if_same}
use Rattle.flow_view.proofs.FlowsLemmas.{serial_members, beside_members, either_members}
use Rattle.flow_view.proofs.follow.members_in.Goals as goal

pub returns-in-Serial : goal.returns-in-Serial
returns-in-Serial c =
    c.if_same.ensures ∙ ap (λ (l : List Form). if_same c.args.operator operator.Serial (map shape_of l)) c.deref.ensures.value
    ∙ serial_members c.args.operator c.args.form.now c.in-Serial.members c.in-Serial.is

pub returns-in-Beside : goal.returns-in-Beside
returns-in-Beside c =
    c.if_same-in-Beside.ensures ∙ ap (λ (l : List Form). if_same c.args.operator operator.Beside (map shape_of l)) c.deref-in-Beside.ensures.value
    ∙ beside_members c.args.operator c.args.form.now c.in-Beside.members c.in-Beside.is

pub returns-in-Either : goal.returns-in-Either
returns-in-Either c =
    c.if_same-in-Either.ensures ∙ ap (λ (l : List Form). if_same c.args.operator operator.Either (map shape_of l)) c.deref-in-Either.ensures.value
    ∙ either_members c.args.operator c.args.form.now c.in-Either.members c.in-Either.is
