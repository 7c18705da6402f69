use Rattle.std.proofs.Common.{◌≡◌, ◌<◌, length, ◌++◌, ◌∷◌, [], ℕ, List, IsTrue, Some, slice_get, refl, sym, ap, subst, ◌∙◌}
use Rattle.std.proofs.lemmas.Option.{slice_get_read}
use Rattle.leaf_rows.specs.Leaves.{has_leaf}
use Rattle.flow_model.specs.Facts.{HoldsAt, replay}
use Rattle.flow_model.specs.Lists.{◌∈◌}
use Rattle.flow_model.specs.Process.{leaves}
use Rattle.flow_model.specs.Schema.{start_of}
use Rattle.flow_model.proofs.MadeLists.{some_same}
use Rattle.flow_workflow.specs.Definition.{schema_of}
use Rattle.flow_stages.specs.declared.nodes.Node.{Node}
use Rattle.flow_stages.specs.Listed.{IsOpen, IsCovered, IsFollowed}
use Rattle.flow_stages.specs.Stages.{IsAfter}
use Rattle.flow_plan.specs.Orders.{MayComeNext}
use Rattle.flow_stages.proofs.Closure.{ok_to}
use Rattle.flow_stages.proofs.ReachedLemmas.{reached_at}
use Rattle.flow_stages.proofs.search.Search.expand.Goals as goal

pub returns-clause-followed : goal.returns-clause-followed
returns-clause-followed c =
    let w = schema_of c.args.self.now.workflow.now in
    let d = c.args.self.now.staff.policy.now.duties in
    let p = c.args.self.now.plan.now in
    let question = c.args.self.now.question in
    let (_, same, _, (within, _), _) = c.in-Some.ensures.lookup in
    let read = slice_get_read c.deref.result.now _ c.args.place c.in-Some.node.now refl within same in
    let new = c.follow_all.new.nodes.items in
    ok_to (λ look. IsOpen look → (node : Node) (list : List ℕ) (n : ℕ) → slice_get c.args.nodes.now.items c.args.place ≡ Some node → IsAfter w list node.stage → n ∈ leaves p.process →
    IsTrue (has_leaf c.next_row-row.result n) → HoldsAt w.labels (replay w.labels (start_of w) list) n → IsCovered w d question new (list ++ n ∷ []))
    (λ look. IsOpen look → (node : Node) → slice_get c.args.nodes.now.items c.args.place ≡ Some node → IsFollowed w d p question new node.stage)
    c.follow_all.result (λ look told going node at list n was may.
    let is : c.in-Some.node.now ≡ node = some_same c.in-Some.node.now node (sym read ∙ ap (λ l. slice_get l c.args.place) c.deref.ensures.value ∙ at) in
    let there = subst (λ (m : Node). IsAfter w list m.stage) (sym is) was in
    told going node list n at was may.0.leaf ((c.next_row-row.ensures list n there.done).1 may.0) may.1) c.follow_all.ensures.covered

pub follow_all-requires : goal.follow_all-requires
follow_all-requires c =
    let w = schema_of c.args.self.now.workflow.now in
    let p = c.args.self.now.plan.now in
    let (_, same, _, (within, _), _) = c.in-Some.ensures.lookup in
    let read = slice_get_read c.deref.result.now _ c.args.place c.in-Some.node.now refl within same in
    let here = ap (λ l. slice_get l c.args.place) (sym c.deref.ensures.value) ∙ read in
    let reached = reached_at w p c.args.nodes.now.items c.args.place c.in-Some.node.now c.requires.reached here in
    let next = λ (node : Node) (n : ℕ) (at : slice_get c.args.nodes.now.items c.args.place ≡ Some node) (there : IsTrue (has_leaf c.next_row-row.result n)).
    let is : c.in-Some.node.now ≡ node = some_same c.in-Some.node.now node (sym here ∙ at) in
    subst (λ (m : Node). MayComeNext p (λ x. x ∈ m.leaves.items) n) is ((c.next_row-row.ensures c.in-Some.node.now.leaves.items n reached.after.done).0 there) in record {
      folds = c.requires.folds;
      roles = c.requires.roles;
      reached = c.requires.reached;
      here = subst (λ (l : List Node). c.args.place < length l) c.deref.ensures.value within;
      next = next;
    }
