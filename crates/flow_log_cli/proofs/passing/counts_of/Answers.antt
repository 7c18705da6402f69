use Rattle.std.proofs.Common.{◌++◌, ◌∷◌, [], map, ap, ◌∙◌}
use Rattle.flow_model.specs.Lists.{numbers_from}
use Rattle.flow_log_cli.specs.Passing.{passing}
use Rattle.flow_log_cli.proofs.PassingLemmas.{counts_more}
use Rattle.flow_log_cli.proofs.passing.counts_of.Goals as goal

pub loop-leaf-preserved : goal.loop-leaf-preserved
loop-leaf-preserved c =
    let f = passing c.args.ways.now c.args.of_cases.now in
    c.in_ok-push.ensures.items ∙ ap (λ l. l ++ c.count_of.result ∷ []) c.loop-leaf.invariant
    ∙ ap (λ x. map f (numbers_from 0 c.loop-leaf.leaf) ++ x ∷ []) c.count_of.ensures ∙ counts_more f c.loop-leaf.leaf
