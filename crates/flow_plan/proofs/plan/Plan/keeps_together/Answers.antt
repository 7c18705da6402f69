use Rattle.std.proofs.Common.{◌↔◌, List, IsTrue, subst}
use Rattle.leaf_rows.specs.Leaves.{has_leaf}
use Rattle.flow_model.specs.Lists.{Each}
use Rattle.flow_plan.specs.declared.part_row.PartRow.{PartRow}
use Rattle.flow_plan.specs.declared.table.Rows.TheVariants.{Narrow, Middle, Wide}
use Rattle.flow_plan.specs.Parts.{KeepsTogether}
use Rattle.flow_plan.proofs.Cuts.{together_by_cut}
use Rattle.flow_plan.proofs.Readiness.{kept_in}
use Rattle.flow_plan.proofs.plan.Plan.keeps_together.Goals as goal

pub returns-in-Narrow : goal.returns-in-Narrow
returns-in-Narrow c =
    let table = kept_in c.self.inside.rows (Narrow c.in-Narrow.table) c.self.invariant.kept c.self.view_is c.in-Narrow.is in
    together_by_cut c.args.self.now c.in-Narrow.table table c.args.leaves.now c.resized.result c.resized.ensures c.parts_keep_together.result
    (subst (λ (parts : List (PartRow _)). IsTrue c.parts_keep_together.result ↔ Each (λ row. KeepsTogether row (λ x. IsTrue (has_leaf c.resized.result x))) parts) c.deref.ensures.value c.parts_keep_together.ensures)

pub returns-in-Middle : goal.returns-in-Middle
returns-in-Middle c =
    let table = kept_in c.self.inside.rows (Middle c.in-Middle.table) c.self.invariant.kept c.self.view_is c.in-Middle.is in
    together_by_cut c.args.self.now c.in-Middle.table table c.args.leaves.now c.resized-in-Middle.result c.resized-in-Middle.ensures c.parts_keep_together-in-Middle.result
    (subst (λ (parts : List (PartRow _)). IsTrue c.parts_keep_together-in-Middle.result ↔ Each (λ row. KeepsTogether row (λ x. IsTrue (has_leaf c.resized-in-Middle.result x))) parts) c.deref-in-Middle.ensures.value c.parts_keep_together-in-Middle.ensures)

pub returns-in-Wide : goal.returns-in-Wide
returns-in-Wide c =
    let table = kept_in c.self.inside.rows (Wide c.in-Wide.table) c.self.invariant.kept c.self.view_is c.in-Wide.is in
    together_by_cut c.args.self.now c.in-Wide.table table c.args.leaves.now c.resized-in-Wide.result c.resized-in-Wide.ensures c.parts_keep_together-in-Wide.result
    (subst (λ (parts : List (PartRow _)). IsTrue c.parts_keep_together-in-Wide.result ↔ Each (λ row. KeepsTogether row (λ x. IsTrue (has_leaf c.resized-in-Wide.result x))) parts) c.deref-in-Wide.ensures.value c.parts_keep_together-in-Wide.ensures)
