-- Stages that were reached: the leaves with which a stage came to be are a run of the plan.
use Rattle.std.proofs.Common.{◌≡◌, ℕ, List, [], ◌∷◌, ◌++◌, slice_get, Some, inr, ⊎_elim, sym, subst}
use Rattle.flow_model.specs.Facts.{HoldsAt, replay}
use Rattle.flow_model.specs.Lists.{◌∈◌}
use Rattle.flow_model.specs.Ready.{DoneOr}
use Rattle.flow_model.specs.Schema.{Schema, start_of}
use Rattle.flow_model.proofs.Lists.{each_member, mem-slice_get}
use Rattle.flow_laws.proofs.RunsByStep.{run-append}
use Rattle.flow_laws.proofs.SoundStates.{runs-append}
use Rattle.flow_fold_laws.proofs.FoldedOrdersByTwo.{folded_by_step}
use Rattle.flow_plan.specs.Orders.{MayComeNext}
use Rattle.flow_plan.specs.Planned.{Planned, pairs_of}
use Rattle.flow_stages.specs.declared.nodes.Node.{Node}
use Rattle.flow_stages.specs.Asked.{IsRunOf}
use Rattle.flow_stages.specs.Listed.{IsReached, AreReached}
use Rattle.flow_stages.specs.Stages.{IsAfter}
use Rattle.flow_stages.proofs.StageLemmas.{next_as}

-- one leaf more
pub run_more : (w : Schema) (p : Planned) (list : List ℕ) (leaf : ℕ) → IsRunOf w p list → MayComeNext p (λ x. x ∈ list) leaf →
    HoldsAt w.labels (replay w.labels (start_of w) list) leaf → IsRunOf w p (list ++ leaf ∷ [])
run_more w p list leaf run may holds = record {
  ready = (run-append (folded_by_step p.process (pairs_of p.tokens)) (λ x. ⊥) list (leaf ∷ [])).1
      (run.ready, (next_as p (λ x. x ∈ list) (DoneOr (λ x. ⊥) list) leaf (λ x. (λ m. inr m, λ d. ⊎_elim (λ none. absurd none) (λ m. m) d)) may, tt));
  runs = runs-append w.labels (start_of w) list (leaf ∷ []) run.runs (holds, tt);
}

pub reached_more : (w : Schema) (p : Planned) (node next : Node) (leaf : ℕ) → IsReached w p node → MayComeNext p (λ x. x ∈ node.leaves.items) leaf →
    HoldsAt w.labels (replay w.labels (start_of w) node.leaves.items) leaf → next.leaves.items ≡ node.leaves.items ++ leaf ∷ [] →
    IsAfter w (node.leaves.items ++ leaf ∷ []) next.stage → IsReached w p next
reached_more w p node next leaf reached may holds same after = record {
  run = subst (IsRunOf w p) (sym same) (run_more w p node.leaves.items leaf reached.run may holds);
  after = subst (λ (l : List ℕ). IsAfter w l next.stage) (sym same) after;
}

-- the node at the place
pub reached_at : (w : Schema) (p : Planned) (nodes : List Node) (place : ℕ) (node : Node) → AreReached w p nodes → slice_get nodes place ≡ Some node → IsReached w p node
reached_at w p nodes place node reached at = each_member (IsReached w p) nodes reached node (mem-slice_get nodes place node at)
