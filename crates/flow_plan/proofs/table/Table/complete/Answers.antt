use Rattle.std.proofs.Common.{ℕ, List, subst, sym}
use Rattle.flow_model.specs.Lists.{◌∈◌}
use Rattle.flow_fold_laws.proofs.FoldedSettled.{finished_by_settled}
use Rattle.flow_plan.proofs.table.Table.complete.Goals as goal

pub returns : goal.returns
returns g c = λ p table done tell.
    let (to, from) = finished_by_settled p.process done table.fields.ordered.distinct in (
      λ yes. from (λ n member. (tell.settled n member).0 (c.is_subset.ensures.0 yes n ((table.all_are n).1 (subst (λ (l : List ℕ). n ∈ l) (sym table.fields.listed) member)))),
      λ finished. c.is_subset.ensures.1 (λ n has.
          let member = subst (λ (l : List ℕ). n ∈ l) table.fields.listed ((table.all_are n).0 has) in (tell.settled n member).1 (to finished n member)),
    )
