use Rattle.std.proofs.Common.{ℕ, List, subst, sym, ◌∙◌}
use Rattle.flow_model.specs.Lists.{◌∈◌}
use Rattle.flow_plan.proofs.Readiness.{direct_second}
use Rattle.flow_plan.proofs.table.Table.all_before.Goals as goal

pub returns-in-None : goal.returns-in-None
returns-in-None g c = λ p table same x. (
  λ has. absurd (let none = sym has ∙ c.new.ensures x in cc),
  λ direct. absurd (c.in-None.ensures.missing (subst (λ (ns : List ℕ). c.args.leaf ∈ ns) (sym table.fields.listed ∙ same)
      (direct_second p table.fields.ordered x c.args.leaf direct))),
)
