use Rattle.std.proofs.Common.{◌∙◌, sym}
use Rattle.std.proofs.lemmas.Bool.{and_parts}
use Rattle.leaf_rows.specs.Leaves.{has_leaf}
use Rattle.flow_residual.proofs.plan_rows.row_meets.Goals as goal

pub returns : goal.returns
returns g c os o are at met =
    let (k, mine, theirs) = c.meets.ensures.0 met in
    (k, are.each c.args.place o c.index-rows-place.result at c.index-rows-place.is k mine, (and_parts _ (has_leaf c.args.set.now k) (sym (c.resized.ensures k) ∙ theirs)).1)
