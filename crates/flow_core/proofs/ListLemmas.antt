-- What is listed of a run.
use Rattle.std.proofs.Common.{◌≡◌, ℕ, zero, suc, ◌<◌, ◌||◌, Bool, true, false, ◌==◌, if◌then◌else◌, List, [], ◌∷◌, length, Option, Some, None, slice_get, refl, sym, inr, subst, true≢false}
use Rattle.std.specs.List.{list_any}
use Rattle.std.proofs.lemmas.Bool.{eqb-true}
use Rattle.flow_model.specs.declared.labels.Label.{Label}
use Rattle.flow_model.specs.declared.labels.Label.TheVariants.{Ins, Del}
use Rattle.flow_model.specs.Facts.{State, state_with, after, after_leaf, replay}
use Rattle.flow_model.specs.Lists.{Each}
use Rattle.flow_model.specs.Run.{CanDoAside, IsStuck}
use Rattle.flow_model.specs.Verdict.{AreJust}
use Rattle.flow_core.specs.Run.{Run, schema, now}
use Rattle.flow_core.specs.Lists.{HoldsNow}
use Rattle.flow_core.specs.Next.{IsWaiting}
use Rattle.flow_core.proofs.RisingLists.{just_as}
use Rattle.flow_workflow.specs.Numbers.{IsKnown}

-- in a run that is stuck, what can be done waits
pub left_wait : (r : Run) → IsStuck (schema r) (now r) → (list : List ℕ) → AreJust (CanDoAside (schema r) (now r)) list → AreJust (IsWaiting r) list
left_wait r stuck list just = just_as (CanDoAside (schema r) (now r)) (IsWaiting r) list just
    (λ n left. (stuck, stuck.only_waiting n (inr left)))
    (λ n waits. waits.1.0)

-- Facts that hold have numbers below the count

-- no fact past the count holds
abbrev IsBounded : ℕ → State → Type 0
IsBounded count s = (n : ℕ) → s n ≡ true → n < count

held_bounded : (count : ℕ) (held : List ℕ) → Each (λ f. f < count) held → IsBounded count (state_with held)
held_bounded count [] each n is = absurd (true≢false (sym is))
held_bounded count (f ∷ held) each n is = step (f == n) refl is (held_bounded count held each.1 n)
  where
    step : (b : Bool) → (f == n) ≡ b → (b || list_any (λ f. f == n) held) ≡ true → (list_any (λ f. f == n) held ≡ true → n < count) → n < count
    step true same there rest = subst (λ k. k < count) (eqb-true f n same) each.0
    step false other there rest = rest there

label_bounded : (events count : ℕ) (label : Label) → IsKnown events count label → (s : State) → IsBounded count s → IsBounded count (after s label)
label_bounded events count (Ins f) known s so_far n is = step (n == f) refl is
  where
    step : (b : Bool) → (n == f) ≡ b → (if b then true else s n) ≡ true → n < count
    step true same there = subst (λ k. k < count) (sym (eqb-true n f same)) known
    step false other there = so_far n there
label_bounded events count (Del f) known s so_far n is = step (n == f) is
  where
    step : (b : Bool) → (if b then false else s n) ≡ true → n < count
    step true there = absurd (true≢false (sym there))
    step false there = so_far n there
label_bounded events count label known s so_far n is = so_far n is

each_at : (P : Label → Type 0) (labels : List Label) (i : ℕ) (label : Label) → Each P labels → slice_get labels i ≡ Some label → P label
each_at P [] i label each at = cc
each_at P (x ∷ labels) zero label each at = let same : x ≡ label = cc in subst P same each.0
each_at P (x ∷ labels) (suc i) label each at = each_at P labels i label each.1 at

leaf_bounded : (events count : ℕ) (labels : List Label) → Each (IsKnown events count) labels → (s : State) (leaf : ℕ) → IsBounded count s → IsBounded count (after_leaf labels s leaf)
leaf_bounded events count labels known s leaf so_far = step (slice_get labels leaf) refl
  where
    step : (o : Option Label) → slice_get labels leaf ≡ o → IsBounded count (after_leaf labels s leaf)
    step None at = let same : after_leaf labels s leaf ≡ s = rw at refl in subst (IsBounded count) (sym same) so_far
    step (Some label) at =
        let same : after_leaf labels s leaf ≡ after s label = rw at refl in
        subst (IsBounded count) (sym same) (label_bounded events count label (each_at (IsKnown events count) labels leaf label known at) s so_far)

replay_bounded : (events count : ℕ) (labels : List Label) → Each (IsKnown events count) labels → (s : State) (leaves : List ℕ) → IsBounded count s →
    IsBounded count (replay labels s leaves)
replay_bounded events count labels known s [] so_far = so_far
replay_bounded events count labels known s (leaf ∷ leaves) so_far =
    replay_bounded events count labels known (after_leaf labels s leaf) leaves (leaf_bounded events count labels known s leaf so_far)

pub fact_within : (r : Run) → Each (λ f. f < length r.definition.facts) r.definition.held →
    Each (IsKnown (length r.definition.events) (length r.definition.facts)) r.definition.tree.labels → (fact : ℕ) → HoldsNow r fact → fact < length r.definition.facts
fact_within r held known = replay_bounded (length r.definition.events) (length r.definition.facts) r.definition.tree.labels known
    (state_with r.definition.held) (now r).journal (held_bounded (length r.definition.facts) r.definition.held held)
