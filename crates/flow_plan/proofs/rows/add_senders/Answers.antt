use Rattle.std.proofs.Common.{◌≡◌, ◌==◌, ◌||◌, Some, slice_get, ℕ, List, [], ◌∷◌, ◌++◌, take, get_or, length, ◌<◌, ap, sym, ◌∙◌, subst}
use Rattle.std.specs.List.Sorted.{IsStrictlyIncreasing}
use Rattle.flow_model.specs.Process.{Process}
use Rattle.flow_model.specs.Ready.{DirectlyBefore}
use Rattle.flow_model.specs.Lists.{◌∈◌}
use Rattle.leaf_rows.specs.Leaves.{has_leaf}
use Rattle.leaf_rows.specs.declared.leaf_set.LeafSet.{LeafSet}
use Rattle.flow_plan.specs.declared.token.OrderToken.{OrderToken}
use Rattle.flow_plan.specs.Planned.{pairs_of}
use Rattle.flow_plan.specs.Rows.{AreRowsOf}
use Rattle.flow_plan.proofs.PlaceLemmas.{distinct_of_rising}
use Rattle.flow_plan.proofs.RowLemmas.{rows_with_sender, rows_without, pairs_more}
use Rattle.flow_plan.proofs.rows.add_senders.Goals as goal
use Rattle.flow_plan.proofs.rows.add_senders.Goals.{in-Some, in_default}

pub loop-token-preserved : goal.loop-token-preserved
loop-token-preserved g c =
    let q : Process = c.args.goal.now.process in
    let ns : List ℕ = c.args.goal.now.leaves in
    let i : ℕ = c.loop-token.token-index in
    let none : OrderToken = record { number = 0; sender = 0; receiver = 0 } in
    let t : OrderToken = get_or c.args.tokens.now i none in
    let Are : List (ℕ × ℕ) → List (LeafSet g.row.W) → Type 0 = λ pairs rows. AreRowsOf (DirectlyBefore q pairs) ns rows in
    subst (λ (pairs : List (ℕ × ℕ)). Are pairs c.match-place_of.rows) (sym (pairs_more c.args.tokens.now i none c.loop-token-test.true))
    (elim c.match-place_of.branch [
      | in-Some w ↦ subst (λ (rows : List (LeafSet g.row.W)). Are (pairs_of (take i c.args.tokens.now) ++ (t.sender, t.receiver) ∷ []) rows) (sym w.rows-is)
          (rows_with_sender q _ t.sender t.receiver ns c.loop-token.rows w.in-Some.place w.index-rows-place.result w.insert.new.self
          (subst (λ (l : List ℕ). slice_get l w.in-Some.place ≡ Some t.receiver) c.leaves-leaves.ensures.leaves w.in-Some.ensures.found)
          (distinct_of_rising ns c.leaves-leaves.ensures.rising) c.loop-token.invariant w.index-rows-place.is
          (λ x. w.insert.ensures x ∙ ap (λ (row : LeafSet g.row.W). x == t.sender || has_leaf row x) (sym w.index-rows-place.is)))
      | in_default w ↦ subst (λ (rows : List (LeafSet g.row.W)). Are (pairs_of (take i c.args.tokens.now) ++ (t.sender, t.receiver) ∷ []) rows) (sym w.rows-is)
          (rows_without q _ t.sender t.receiver ns c.loop-token.rows (subst (λ (l : List ℕ). t.receiver ∈ l → ⊥) c.leaves-leaves.ensures.leaves w.in_default.ensures.missing) c.loop-token.invariant)
    ])

pub bounds-rows-place : goal.bounds-rows-place
bounds-rows-place g c =
    subst (λ (n : ℕ). c.in-Some.place < n) (ap length c.leaves-leaves.ensures.leaves ∙ sym (c.loop-token.auto.rows ∙ c.requires.one_each)) c.in-Some.ensures.within

pub place_of-requires : goal.place_of-requires
place_of-requires g c = subst IsStrictlyIncreasing (sym c.leaves-leaves.ensures.leaves) c.leaves-leaves.ensures.rising
