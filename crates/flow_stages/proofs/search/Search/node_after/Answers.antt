use Rattle.std.proofs.Common.{◌++◌, ◌∷◌, [], IfSome, subst}
use Rattle.flow_model.specs.Facts.{HoldsAt, replay}
use Rattle.flow_model.specs.Schema.{start_of}
use Rattle.flow_workflow.specs.Definition.{schema_of}
use Rattle.flow_stages.specs.declared.stage.Stage.{Stage}
use Rattle.flow_stages.specs.Stages.{IsAfter}
use Rattle.flow_stages.proofs.ReachedLemmas.{reached_more}
use Rattle.flow_stages.proofs.search.Search.node_after.Goals as goal

pub returns-clause-reached : goal.returns-clause-reached
returns-clause-reached c = λ reached may.
    let w = schema_of c.args.self.now.workflow.now in
    let list = c.args.node.now.leaves.items in
    let leaf = c.args.leaf in
    let holds = subst (λ o. IfSome o (λ (x : Stage). HoldsAt w.labels (replay w.labels (start_of w) list) leaf)) c.in-Some.is (c.in_ok-stage.ensures.holds list reached.after) in
    let after = subst (λ o. IfSome o (IsAfter w (list ++ leaf ∷ []))) c.in-Some.is (c.in_ok-stage.ensures.after list reached.after) in
    reached_more w c.args.self.now.plan.now c.args.node.now (record { stage = c.in-Some.stage; leaves = c.in_ok-leaves.leaves }) leaf reached may holds c.in_ok-leaves.ensures after
