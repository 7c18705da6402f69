use Rattle.std.proofs.Common.{[], ◌∷◌, ◌++◌}
use Rattle.leaf_rows.specs.Leaves.{has_leaf}
use Rattle.flow_residual.proofs.Following.{may_all_follow}
use Rattle.flow_residual.proofs.QuestionLemmas.{in_words}
use Rattle.flow_residual.proofs.residual.Residual.all_that_follow.Goals as goal

pub returns : goal.returns
returns c w s of leaf =
    in_words (has_leaf c.all_taken.result leaf) _ _ (c.all_taken.ensures leaf) (may_all_follow w s c.args.self.now of (c.args.claims.now ++ leaf ∷ []))
