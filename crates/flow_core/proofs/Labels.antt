-- What the label of a leaf tells of the leaf.
use Rattle.std.proofs.Common.{◌≡◌, ◌≤◌, ◌<◌, ◌↔◌, ◌⊎◌, inl, inr, ℕ, zero, suc, Bool, IsTrue, List, [], ◌∷◌, length, Some, None, MatchOption, slice_get, is_some, refl, sym, ap, subst, ◌∙◌, arith, true≢false}
use Rattle.std.proofs.lemmas.Option.{slice_get_within}
use Rattle.flow_model.specs.declared.labels.Label.{Label}
use Rattle.flow_model.specs.declared.labels.Label.TheVariants.{Event, Test, Absent, Ins, Del}
use Rattle.flow_model.specs.Facts.{State, event_at, event_in, Holds, HoldsAt}
use Rattle.flow_model.specs.Schema.{Schema, IsEventLeaf, IsOtherLeaf}
use Rattle.flow_model.specs.Run.{RunState, database, CanTake, CanDoAside, CanDo}

-- no label: the leaf is past the end
pub past : (labels : List Label) (leaf : ℕ) → None ≡ slice_get labels leaf → length labels ≤ leaf
past [] leaf none = omega arith
past (x ∷ xs) zero none = cc
past (x ∷ xs) (suc leaf) none = let rest : length xs ≤ leaf = past xs leaf none in omega arith

no_event : (label : Label) → ((event : ℕ) → ¬ (label ≡ Event event)) → event_in label ≡ None
no_event (Event event) other = absurd (other event refl)
no_event (Test fact) other = refl
no_event (Absent fact) other = refl
no_event (Ins fact) other = refl
no_event (Del fact) other = refl

pub other_leaf : (w : Schema) (leaf : ℕ) (label : Label) → Some label ≡ slice_get w.labels leaf → ((event : ℕ) → ¬ (label ≡ Event event)) → IsOtherLeaf w leaf
other_leaf w leaf label at other = (slice_get_within w.labels leaf label (sym at), rw (← at) (no_event label other))

pub event_leaf : (w : Schema) (leaf : ℕ) (label : Label) (event : ℕ) → Some label ≡ slice_get w.labels leaf → label ≡ Event event → IsEventLeaf w leaf
event_leaf w leaf label event at is = rw (← at, is) refl

pub leaf_of_event : (w : Schema) (leaf event : ℕ) → Some event ≡ event_at w.labels leaf → IsEventLeaf w leaf
leaf_of_event w leaf event at = rw (← at) refl

pub not_both : (w : Schema) (leaf : ℕ) → IsEventLeaf w leaf → ¬ (IsOtherLeaf w leaf)
not_both w leaf event other = true≢false (sym event ∙ ap is_some other.1)

-- the label at a leaf holds there
pub holds_at : (labels : List Label) (s : State) (leaf : ℕ) (label : Label) → Some label ≡ slice_get labels leaf → Holds s label → HoldsAt labels s leaf
holds_at labels s leaf label at holds = subst (λ o. MatchOption o (Unit {0}) (Holds s)) at holds

pub label_at : (labels : List Label) (s : State) (leaf : ℕ) (label : Label) → Some label ≡ slice_get labels leaf → HoldsAt labels s leaf → Holds s label
label_at labels s leaf label at there = subst (λ o. MatchOption o (Unit {0}) (Holds s)) (sym at) there

-- past the end nothing is left and nothing can be taken
pub none_left : (w : Schema) (s : RunState) (leaf : ℕ) → None ≡ slice_get w.labels leaf → ¬ (CanDoAside w s leaf)
none_left w s leaf none can = let end : length w.labels ≤ leaf = past w.labels leaf none in let within : leaf < length w.labels = can.0.0 in omega arith

pub none_steps : (w : Schema) (s : RunState) (leaf : ℕ) → None ≡ slice_get w.labels leaf → ¬ (CanTake w s leaf ⊎ CanDo w s leaf)
none_steps w s leaf none (inl can) = true≢false (sym can.0 ∙ rw (← none) refl)
none_steps w s leaf none (inr can) = none_left w s leaf none can.0

-- a leaf that is no event's is done where its label holds
pub other_steps : (w : Schema) (s : RunState) (leaf : ℕ) (label : Label) (b : Bool) → Some label ≡ slice_get w.labels leaf → IsOtherLeaf w leaf → Holds (database w s) label →
    IsTrue b ↔ CanDoAside w s leaf → IsTrue b ↔ (CanTake w s leaf ⊎ CanDo w s leaf)
other_steps w s leaf label b at other holds says = (
  λ yes. inr (says.0 yes, subst (λ o. MatchOption o (Unit {0}) (Holds (database w s))) at holds),
  λ can. elim can [ inl take ↦ absurd (not_both w leaf take.0 other) | inr done ↦ says.1 done.0 ],
)

pub other_not : (w : Schema) (s : RunState) (leaf : ℕ) (label : Label) → Some label ≡ slice_get w.labels leaf → IsOtherLeaf w leaf → ¬ (Holds (database w s) label) →
    ¬ (CanTake w s leaf ⊎ CanDo w s leaf)
other_not w s leaf label at other lacks (inl take) = not_both w leaf take.0 other
other_not w s leaf label at other lacks (inr done) = lacks (subst (λ o. MatchOption o (Unit {0}) (Holds (database w s))) (sym at) done.1)
