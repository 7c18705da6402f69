use Rattle.std.proofs.Common.{List, subst}
use Rattle.flow_model.specs.Lists.{◌∈◌}
use Rattle.flow_model.proofs.Lists.{each_member}
use Rattle.flow_plan.specs.declared.part_row.PartRow.{PartRow}
use Rattle.flow_plan.specs.Parts.{IsPlaced}
use Rattle.flow_plan.proofs.KnownLemmas.{known_around}
use Rattle.flow_plan.proofs.StepRows.{part_at}
use Rattle.flow_plan.proofs.table.Table.known_for.Goals as goal

pub returns : goal.returns
returns g c = λ ns placed.
    let row = c.in-Some-get.part.now in
    let found = c.in-Some-get.ensures.lookup in
    let member = subst (λ (l : List (PartRow g.row.W)). row ∈ l) c.deref.ensures.value (part_at c.deref.result.now c.first_behind.result row row found.3.0 found.1) in
    known_around ns c.args.sides.now c.args.leaf row (each_member (IsPlaced ns) c.args.self.now.parts.items placed row member) (c.is_entered.ensures c.if-not-is_entered.false)
