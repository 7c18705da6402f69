-- What may come next at a stage, and the facts that hold.
use Rattle.std.proofs.Common.{◌≡◌, ◌↔◌, ◌||◌, ◌==◌, ℕ, Bool, true, false, IsTrue, List, [], ◌∷◌, ◌++◌, Option, Some, None, MatchOption, slice_get, inl, inr, ⊎_elim, refl, sym, ap, ◌∙◌}
use Rattle.std.proofs.lemmas.Bool.{cases_Bool, eq-eqb, eqb-true}
use Rattle.leaf_rows.specs.Leaves.{has_leaf}
use Rattle.leaf_rows.specs.declared.leaf_set.LeafSet.{LeafSet}
use Rattle.leaf_rows.specs.declared.TheConstants.{LEAF_WORDS}
use Rattle.flow_model.specs.declared.labels.Label.{Label}
use Rattle.flow_model.specs.declared.labels.Label.TheVariants.{Event, Test, Absent, Ins, Del}
use Rattle.flow_model.specs.Facts.{State, Holds, after_leaf, state_with, replay}
use Rattle.flow_model.specs.Lists.{◌∈◌, AreDistinct}
use Rattle.flow_model.specs.Process.{Process, leaves}
use Rattle.flow_model.specs.Folding.{IsFolded}
use Rattle.flow_model.specs.Schema.{Schema, start_of}
use Rattle.flow_model.proofs.Lists.{mem-append, mem_append_left, mem_append_right, only_one}
use Rattle.flow_laws.proofs.RunsByStep.{AreSame}
use Rattle.flow_fold_laws.specs.Unfolding.{IsFoldedOrdered}
use Rattle.flow_fold_laws.proofs.FoldedOrdersByTwo.{folded_by_step}
use Rattle.flow_plan.specs.declared.fold_row.FoldRow.{FoldRow}
use Rattle.flow_plan.specs.declared.sides.Sides.{Sides}
use Rattle.flow_plan.specs.FoldRows.{AreFoldRows}
use Rattle.flow_plan.specs.Planned.{Planned, pairs_of}
use Rattle.flow_plan.specs.Orders.{TellOf, MayComeNext}
use Rattle.flow_plan.specs.Sided.{AreSidesOf, IsDoneIn}
use Rattle.flow_plan.proofs.Following.{sides_tell}
use Rattle.flow_stages.specs.Stages.{IsAfter, state_after}
use Rattle.flow_stages.specs.declared.stage.Stage.{Stage}

-- the sides of the done leaves tell of the plan
pub sides_are : (p : Planned) (folds : List FoldRow) (done banned : LeafSet LEAF_WORDS) (sides : Sides) → AreFoldRows p.process folds → IsFoldedOrdered p.process (pairs_of p.tokens) →
    ((q : Process) → AreFoldRows q folds → IsFolded q → AreDistinct (leaves q) → AreSidesOf q (λ n. IsTrue (has_leaf done n)) (λ n. IsTrue (has_leaf banned n)) sides) → TellOf p sides
sides_are p folds done banned sides serve ordered told = sides_tell p sides (has_leaf done) (has_leaf banned) (told p.process serve ordered.folded ordered.distinct)

-- it does not matter how the done leaves are told
pub next_as : (p : Planned) (D E : ℕ → Type 0) (n : ℕ) → AreSame D E → MayComeNext p D n → MayComeNext p E n
next_as p D E n same = (folded_by_step p.process (pairs_of p.tokens)).same D E n same

-- the row of the sides, by the leaves that are done
pub row_after : (p : Planned) (folds : List FoldRow) (done banned : LeafSet LEAF_WORDS) (sides : Sides) → AreFoldRows p.process folds → IsFoldedOrdered p.process (pairs_of p.tokens) →
    ((q : Process) → AreFoldRows q folds → IsFolded q → AreDistinct (leaves q) → AreSidesOf q (λ n. IsTrue (has_leaf done n)) (λ n. IsTrue (has_leaf banned n)) sides) →
    (list : List ℕ) (n : ℕ) (In : Type 0) → ((x : ℕ) → IsTrue (has_leaf done x) ↔ (x ∈ list)) → In ↔ MayComeNext p (IsDoneIn sides) n → In ↔ MayComeNext p (λ x. x ∈ list) n
row_after p folds done banned sides serve ordered told list n In same row =
    let are = told p.process serve ordered.folded ordered.distinct in (
      λ y. next_as p (IsDoneIn sides) (λ x. x ∈ list) n (λ x. (λ d. (same x).0 ((are.done x).0 d), λ m. (are.done x).1 ((same x).1 m))) (row.0 y),
      λ may. row.1 (next_as p (λ x. x ∈ list) (IsDoneIn sides) n (λ x. (λ m. (are.done x).1 ((same x).1 m), λ d. (same x).0 ((are.done x).0 d))) may),
    )

-- ---- facts

-- what a label leaves of two states with the same facts
pub after_as : (label : Option Label) (s t : State) → ((f : ℕ) → s f ≡ t f) → (f : ℕ) → state_after label s f ≡ state_after label t f
after_as None s t same f = same f
after_as (Some (Event e)) s t same f = same f
after_as (Some (Test x)) s t same f = same f
after_as (Some (Absent x)) s t same f = same f
after_as (Some (Ins x)) s t same f = rw (same f) refl
after_as (Some (Del x)) s t same f = rw (same f) refl

-- a label that holds in the one holds in the other
pub holds_as : (label : Option Label) (s t : State) → ((f : ℕ) → s f ≡ t f) → MatchOption label (Unit {0}) (Holds s) → MatchOption label (Unit {0}) (Holds t)
holds_as None s t same h = h
holds_as (Some (Event e)) s t same h = h
holds_as (Some (Test x)) s t same h = sym (same x) ∙ h
holds_as (Some (Absent x)) s t same h = sym (same x) ∙ h
holds_as (Some (Ins x)) s t same h = h
holds_as (Some (Del x)) s t same h = h

leaf_after : (labels : List Label) (s : State) (n : ℕ) → after_leaf labels s n ≡ state_after (slice_get labels n) s
leaf_after labels s n = go (slice_get labels n) refl
  where
    go : (o : Option Label) → slice_get labels n ≡ o → after_leaf labels s n ≡ state_after o s
    go None e = rw e refl
    go (Some label) e = rw e refl

pub replay-append : (labels : List Label) (s : State) (a b : List ℕ) → replay labels s (a ++ b) ≡ replay labels (replay labels s a) b
replay-append labels s [] b = refl
replay-append labels s (n ∷ a) b = replay-append labels (after_leaf labels s n) a b

-- one leaf more is done
pub stage_with : (w : Schema) (list : List ℕ) (leaf : ℕ) (label : Option Label) (stage next : Stage) → slice_get w.labels leaf ≡ label → IsAfter w list stage →
    ((k : ℕ) → has_leaf next.done k ≡ (k == leaf || has_leaf stage.done k)) → ((f : ℕ) → state_with next.held.items f ≡ state_after label (state_with stage.held.items) f) →
    IsAfter w (list ++ leaf ∷ []) next
stage_with w list leaf label stage next at was done held = record {
  done = λ n. (
    λ there. elim (cases_Bool (n == leaf)) [
      | inl is ↦ mem_append_right n list (leaf ∷ []) (inl (eqb-true n leaf is))
      | inr out ↦ mem_append_left n list (leaf ∷ []) ((was.done n).0 (let h = sym (done n) ∙ there in rw out at h))
    ],
    λ m. done n ∙ ⊎_elim (λ old. rw ((was.done n).1 old) (or_true (n == leaf))) (λ new. rw (eq-eqb n leaf (only_one n leaf new)) refl) (mem-append n list (leaf ∷ []) m),
  );
  held = λ f. held f ∙ after_as label (state_with stage.held.items) (replay w.labels (start_of w) list) was.held f
      ∙ ap (λ (o : Option Label). state_after o (replay w.labels (start_of w) list) f) (sym at)
      ∙ ap (λ (s : State). s f) (sym (leaf_after w.labels (replay w.labels (start_of w) list) leaf) ∙ sym (replay-append w.labels (start_of w) list (leaf ∷ [])));
}
  where
    or_true : (b : Bool) → (b || true) ≡ true
    or_true true = refl
    or_true false = refl

-- the same leaves are done and the same facts hold
pub stage_as : (w : Schema) (list : List ℕ) (one other : Stage) → ((k : ℕ) → IsTrue (has_leaf one.done k) → IsTrue (has_leaf other.done k)) →
    ((k : ℕ) → IsTrue (has_leaf other.done k) → IsTrue (has_leaf one.done k)) → one.held.items ≡ other.held.items → IsAfter w list other → IsAfter w list one
stage_as w list one other to from same was = record {
  done = λ n. (λ there. (was.done n).0 (to n there), λ m. from n ((was.done n).1 m));
  held = λ f. ap (λ (held : List ℕ). state_with held f) same ∙ was.held f;
}
