use Rattle.std.proofs.Common.{◌++◌, ◌∷◌, [], ◌∙◌, List, ap, append_assoc}
use Rattle.flow_rules.specs.declared.order_set.OrderSet.{OrderSet}
use Rattle.flow_rules.proofs.way_lists.add.Goals as goal

pub loop-other-preserved : goal.loop-other-preserved
loop-other-preserved c =
    c.in_ok-push.ensures.items ∙ ap (λ (all : List OrderSet). all ++ c.in-Some.other ∷ []) c.loop-other.invariant
    ∙ append_assoc c.args.all.now.items c.loop-other.yielded (c.in-Some.other ∷ [])
