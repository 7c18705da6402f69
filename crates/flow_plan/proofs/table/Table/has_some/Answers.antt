use Rattle.std.proofs.Common.{ℕ, List, subst, sym}
use Rattle.flow_model.specs.Lists.{◌∈◌}
use Rattle.flow_plan.proofs.table.Table.has_some.Goals as goal

pub returns : goal.returns
returns g c = λ p table. (
  λ yes. let (n, mine, has) = c.meets.ensures.0 yes in (n, subst (λ (l : List ℕ). n ∈ l) table.fields.listed ((table.all_are n).0 mine), has),
  λ (n, member, has). c.meets.ensures.1 (n, (table.all_are n).1 (subst (λ (l : List ℕ). n ∈ l) (sym table.fields.listed) member), has),
)
