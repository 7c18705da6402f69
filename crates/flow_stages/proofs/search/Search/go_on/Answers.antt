use Rattle.std.proofs.Common.{◌≡◌, ◌++◌, ◌∷◌, [], List, inl, refl, sym, ap, subst, ◌∙◌}
use Rattle.flow_model.specs.Lists.{◌∈◌}
use Rattle.flow_workflow.specs.Definition.{schema_of}
use Rattle.flow_stages.specs.declared.nodes.Node.{Node}
use Rattle.flow_stages.specs.Asked.{IsNeverSo}
use Rattle.flow_stages.specs.Listed.{IsOpen, IsFollowed, AreQuiet, AreReached}
use Rattle.flow_stages.proofs.Closure.{listed_more, never_so, ok_given, ok_at}
use Rattle.flow_stages.proofs.search.Search.go_on.Goals as goal

pub explore-requires-clause-reached : goal.explore-requires-clause-reached
explore-requires-clause-reached c =
    let items : c.push.new.self.items ≡ c.args.node ∷ [] = c.in_ok-push.ensures.items ∙ ap (λ (l : List Node). l ++ c.args.node ∷ []) c.new-nodes.ensures.items in
    subst (AreReached (schema_of c.args.self.now.workflow.now) c.args.self.now.plan.now) (sym items) (c.requires.reached, tt)

pub returns-clause-never : goal.returns-clause-never
returns-clause-never c =
    let w = schema_of c.args.self.now.workflow.now in
    let d = c.args.self.now.staff.policy.now.duties in
    let p = c.args.self.now.plan.now in
    let question = c.args.self.now.question in
    let node : Node = c.args.node in
    let items : c.push.new.self.items ≡ node ∷ [] = c.in_ok-push.ensures.items ∙ ap (λ (l : List Node). l ++ node ∷ []) c.new-nodes.ensures.items in
    let new = c.explore.new.nodes.items in
    let listed = listed_more w c.push.new.self.items new [] c.explore.ensures.grows (node, subst (λ (l : List Node). node ∈ l) (sym items) (inl refl), c.requires.first) in
    ok_given (λ look. IsOpen look → IsNeverSo w d p question) c.explore.result (λ look is going.
    never_so w d p question new
    (ok_at (λ look. IsOpen look → (n : Node) → n ∈ new → IsFollowed w d p question new n.stage) c.explore.result look is c.explore.ensures.followed going) listed
    (ok_at (λ look. IsOpen look → AreQuiet w d p question c.push.new.self.items → AreQuiet w d p question new) c.explore.result look is c.explore.ensures.quiet going
    (subst (AreQuiet w d p question) (sym items) (c.requires.quiet, tt))))
