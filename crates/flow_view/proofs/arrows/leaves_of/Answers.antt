use Rattle.std.proofs.Common.{ℕ, Bool, Vec, Global, sym, ap, ◌∙◌}
use Rattle.flow_model.specs.Facts.{event_at, is_event}
use Rattle.flow_view.proofs.ToldLemmas.{leaf_kept, leaf_passed}
use Rattle.flow_view.proofs.arrows.leaves_of.Goals as goal
use Rattle.flow_view.proofs.arrows.leaves_of.Goals.{then-has_event+in_ok-push, else-has_event}

pub loop-leaf-preserved : goal.loop-leaf-preserved
loop-leaf-preserved c =
    let p : ℕ → Bool = λ n. is_event c.args.event (event_at c.args.tree.now.labels n) in
    elim c.if-has_event.branch [
      | then-has_event+in_ok-push w ↦ ap (λ (v : Vec ℕ Global). v.items) w.leaves-is ∙ w.in_ok-push.ensures.items
          ∙ leaf_kept p c.loop-leaf.leaf c.loop-leaf.leaves.items (sym c.has_event.ensures ∙ w.if-has_event.true) c.loop-leaf.invariant
      | else-has_event w ↦ ap (λ (v : Vec ℕ Global). v.items) w.leaves-is
          ∙ leaf_passed p c.loop-leaf.leaf c.loop-leaf.leaves.items (sym c.has_event.ensures ∙ w.if-has_event.false) c.loop-leaf.invariant
    ]
