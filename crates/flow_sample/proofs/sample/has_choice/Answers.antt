use Rattle.std.proofs.Common.{◌∙◌, subst}
use Rattle.std.proofs.lemmas.List.{take_all}
use Rattle.flow_sample.proofs.SideLemmas.{BeginsNone, no_choice_begins}
use Rattle.flow_sample.proofs.sample.has_choice.Goals as goal

pub returns : goal.returns
returns c = λ q is _.
    no_choice_begins q (subst BeginsNone (take_all c.loop-node.node-index c.args.nodes.now c.loop-node-test.false ∙ is) c.loop-node.invariant)
