use Rattle.std.proofs.Common.{◌||◌, ap, sym, ◌∙◌}
use Rattle.leaf_rows.specs.Leaves.{has_leaf}
use Rattle.flow_plan.proofs.Widths.{with_room}
use Rattle.flow_plan.proofs.steps.put_in.Goals as goal

pub returns-then-this : goal.returns-then-this
returns-then-this g c n = c.union_narrow.ensures n ∙ ap (λ b. has_leaf c.args.found.now n || b) (sym (with_room g.row.V c.args.more.now c.if-this.true n))
