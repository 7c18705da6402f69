use Rattle.std.proofs.Common.{subst}
use Rattle.std.proofs.lemmas.List.{take_all}
use Rattle.flow_goal.specs.Labelled.{Labelled}
use Rattle.flow_workflow.specs.Rule.{rules_of}
use Rattle.flow_view.specs.Arrows.{arrows_from}
use Rattle.flow_view.specs.Told.{AreTold}
use Rattle.flow_view.proofs.ToldLemmas.{numbered_more}
use Rattle.flow_view.proofs.arrows.arrows_of.Goals as goal

pub loop-number-preserved : goal.loop-number-preserved
loop-number-preserved c =
    numbered_more c.tree-tree.result.now.labels c.rules-rules.result.now c.loop-number.number c.index-rules-number.result c.loop-number.arrows c.put_rule.new.self
    c.loop-number-test.true c.index-rules-number.is c.loop-number.invariant c.in_ok-put_rule.ensures

pub returns : goal.returns
returns c =
    let all = take_all c.loop-number.number c.rules-rules.result.now c.loop-number-test.false in
    subst (λ rs. AreTold c.loop-number.arrows (arrows_from c.args.workflow.now.tree.labels 0 rs)) c.rules-rules.ensures
    (subst (λ (t : Labelled). AreTold c.loop-number.arrows (arrows_from t.labels 0 (rules_of c.rules-rules.result.now))) c.tree-tree.ensures.tree
    (subst (λ l. AreTold c.loop-number.arrows (arrows_from c.tree-tree.result.now.labels 0 (rules_of l))) all c.loop-number.invariant))
