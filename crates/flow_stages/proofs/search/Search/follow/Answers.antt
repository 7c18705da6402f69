use Rattle.std.proofs.Common.{◌≡◌, ◌++◌, ◌∷◌, [], List, Some, slice_get, IfSome, IfNone, refl, sym, ap, subst, ◌∙◌}
use Rattle.std.proofs.lemmas.Option.{slice_get_read}
use Rattle.flow_model.specs.Facts.{HoldsAt, replay}
use Rattle.flow_model.specs.Schema.{start_of}
use Rattle.flow_model.proofs.MadeLists.{some_same}
use Rattle.flow_workflow.specs.Definition.{schema_of}
use Rattle.flow_stages.specs.declared.nodes.Node.{Node}
use Rattle.flow_stages.specs.Listed.{IsOpen, IsCovered, IsReached}
use Rattle.flow_stages.specs.Stages.{IsAfter}
use Rattle.flow_stages.proofs.Closure.{ok_to}
use Rattle.flow_stages.proofs.ReachedLemmas.{reached_at}
use Rattle.flow_stages.proofs.search.Search.follow.Goals as goal

pub returns-in-Some-2-clause-covered : goal.returns-in-Some-2-clause-covered
returns-in-Some-2-clause-covered c =
    let w = schema_of c.args.self.now.workflow.now in
    let d = c.args.self.now.staff.policy.now.duties in
    let question = c.args.self.now.question in
    let leaf = c.args.leaf in
    let (_, same, _, (within, _), _) = c.in-Some.ensures.lookup in
    let read = slice_get_read c.deref.result.now _ c.args.place c.in-Some.node.now refl within same in
    ok_to (λ look. IsOpen look → (list : List _) → IsAfter w list c.in-Some-2.next.stage → IsCovered w d question c.reach.new.nodes.items list)
    (λ look. IsOpen look → (node : Node) (list : List _) → slice_get c.args.nodes.now.items c.args.place ≡ Some node → IsAfter w list node.stage →
    HoldsAt w.labels (replay w.labels (start_of w) list) leaf → IsCovered w d question c.reach.new.nodes.items (list ++ leaf ∷ []))
    c.reach.result (λ look told going node list at was holds.
    let is : c.in-Some.node.now ≡ node = some_same c.in-Some.node.now node (sym read ∙ ap (λ l. slice_get l c.args.place) c.deref.ensures.value ∙ at) in
    told going (list ++ leaf ∷ []) (subst (λ o. IfSome o (λ (next : Node). IsAfter w (list ++ leaf ∷ []) next.stage)) c.in-Some-2.is
    (c.in_ok-next.ensures.after list (subst (λ (n : Node). IsAfter w list n.stage) (sym is) was)))) c.reach.ensures.covered

pub returns-in-None-clause-covered : goal.returns-in-None-clause-covered
returns-in-None-clause-covered c = λ _ node list at was holds.
    let w = schema_of c.args.self.now.workflow.now in
    let (_, same, _, (within, _), _) = c.in-Some.ensures.lookup in
    let read = slice_get_read c.deref.result.now _ c.args.place c.in-Some.node.now refl within same in
    let is : c.in-Some.node.now ≡ node = some_same c.in-Some.node.now node (sym read ∙ ap (λ l. slice_get l c.args.place) c.deref.ensures.value ∙ at) in
    absurd (subst (λ o. IfNone o (¬ (HoldsAt w.labels (replay w.labels (start_of w) list) c.args.leaf))) c.in-None.is
    (c.in_ok-next.ensures.none list (subst (λ (n : Node). IsAfter w list n.stage) (sym is) was)) holds)

pub reach-requires-clause-new : goal.reach-requires-clause-new
reach-requires-clause-new c =
    let w = schema_of c.args.self.now.workflow.now in
    let p = c.args.self.now.plan.now in
    let (_, same, _, (within, _), _) = c.in-Some.ensures.lookup in
    let read = slice_get_read c.deref.result.now _ c.args.place c.in-Some.node.now refl within same in
    let at = ap (λ l. slice_get l c.args.place) (sym c.deref.ensures.value) ∙ read in
    subst (λ o. IfSome o (IsReached w p)) c.in-Some-2.is
    (c.in_ok-next.ensures.reached (reached_at w p c.args.nodes.now.items c.args.place c.in-Some.node.now c.requires.reached at) (c.requires.next c.in-Some.node.now at))
