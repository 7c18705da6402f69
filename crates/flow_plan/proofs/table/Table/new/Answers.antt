use Rattle.std.proofs.Common.{ℕ, List, subst, sym}
use Rattle.leaf_rows.specs.declared.leaf_set.LeafSet.{LeafSet}
use Rattle.flow_model.specs.Lists.{◌∈◌}
use Rattle.flow_model.specs.Ready.{DirectlyBefore}
use Rattle.flow_plan.specs.declared.part_row.PartRow.{PartRow}
use Rattle.flow_plan.specs.Known.{AreSpansOf}
use Rattle.flow_plan.specs.Planned.{pairs_of}
use Rattle.flow_plan.specs.Rows.{AreRowsOf, IsRowOf}
use Rattle.flow_plan.proofs.table.Table.new.Goals as goal

pub returns : goal.returns
returns g c =
    let q = c.args.goal.now in
    let rows = c.in_ok-before.ensures in record {
      fields = record {
        ordered = c.requires.ordered;
        listed = c.leaves.ensures.listed;
        rows = rows;
        parts_are = c.in_ok-parts.ensures (pairs_of c.args.tokens.now)
            (subst (λ (l : List (LeafSet g.row.W)). AreRowsOf (DirectlyBefore q.process (pairs_of c.args.tokens.now)) q.leaves l) (sym c.deref.ensures.value) rows);
      };
      within = c.requires.within;
      all_are = subst (λ (ns : List ℕ). IsRowOf (λ x. x ∈ ns) c.set_of.result) c.leaves.ensures.leaves c.set_of.ensures;
      spans_are = subst (λ (parts : List (PartRow g.row.W)). AreSpansOf c.in_ok-spans.spans.items parts) c.deref-2.ensures.value c.in_ok-spans.ensures;
    }
