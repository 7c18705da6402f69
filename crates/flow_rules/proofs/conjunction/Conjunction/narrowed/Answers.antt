use Rattle.std.proofs.Common.{◌∙◌, ap, sym}
use Rattle.std.proofs.lemmas.Result.{IfOk-weaker}
use Rattle.flow_model.specs.declared.operators.Connective.TheVariants.{And}
use Rattle.flow_rules.specs.WayLists.{ways_of_parts}
use Rattle.flow_rules.proofs.NormalViews.{ways_of_joined}
use Rattle.flow_rules.proofs.conjunction.Conjunction.narrowed.Goals as goal

pub returns : goal.returns
returns c =
    IfOk-weaker c.narrow_each.result _ _
    (λ narrowed h lane leaf within shows. h lane leaf within shows ∙ ap (ways_of_parts And leaf) c.deref.ensures.value ∙ sym (ways_of_joined And leaf c.args.self.now.rules.items))
    c.narrow_each.ensures
