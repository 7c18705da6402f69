use Rattle.leaf_rows.specs.Leaves.{has_leaf}
use Rattle.flow_residual.proofs.Following.{may_follow_first}
use Rattle.flow_residual.proofs.QuestionLemmas.{in_words}
use Rattle.flow_residual.proofs.residual.Residual.all_that_follow_first.Goals as goal

pub returns : goal.returns
returns c w s of leaf =
    in_words (has_leaf c.all_taken.result leaf) _ _ (c.all_taken.ensures leaf) (may_follow_first w s c.args.self.now of leaf c.args.claims.now)
