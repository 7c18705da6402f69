-- What may follow a journal is the same by options whose choices are folded, and is seen in each.
use Rattle.std.specs.Prelude.{◌≡◌, ℕ, Bool, IsTrue, List, [], ◌∷◌, ◌++◌, ◌↔◌}
use Rattle.flow_model.specs.Lists.{◌∈◌, Each, IsOrderOf}
use Rattle.flow_model.specs.Process.{Process}
use Rattle.flow_model.specs.Schema.{Schema}
use Rattle.flow_model.specs.Resolution.{ChoiceOption, OptionTrace, options}
use Rattle.flow_model.specs.Ready.{DoneOr}
use Rattle.flow_model.specs.Folding.{folded_options_by, KeepsNamedApart}
use Rattle.flow_model.specs.FoldedReady.{IsFoldedReady, IsFoldedRun, IsFoldedRunAfter}
use Rattle.flow_model.specs.Run.{Claim, RunState, is_current, MayFollow, CanTake, CanDoAside}
use Rattle.flow_model.specs.FoldedRun.{FoldedCanTake, FoldedCanDoAside, CanAvoid}
use Rattle.flow_laws.specs.WellFormed.{IsWellFormed, EachTwo}
use Rattle.flow_laws.specs.Spared.{IsSpared}

-- in some one folded option the leaves may follow in every order, after those that come first, exactly where they may in
-- some one option
abbrev pub OrdersUnfold : Type 0
OrdersUnfold = (apart : ℕ → Bool) (w : Schema) → IsWellFormed w → KeepsNamedApart apart w → (s : RunState) (first list : List ℕ) →
    ((o : ChoiceOption) × (o ∈ folded_options_by apart w) × ((order : List ℕ) → IsOrderOf order list → MayFollow w s o (first ++ order)))
    ↔ ((u : ChoiceOption) × (u ∈ options w) × ((order : List ℕ) → IsOrderOf order list → MayFollow w s u (first ++ order)))

abbrev pub SameCanTake : Type 0
SameCanTake = (w : Schema) → IsWellFormed w → (s : RunState) (n : ℕ) → FoldedCanTake w s n ↔ CanTake w s n

abbrev pub SameCanDoAside : Type 0
SameCanDoAside = (w : Schema) → IsWellFormed w → (s : RunState) (n : ℕ) → FoldedCanDoAside w s n ↔ CanDoAside w s n

-- a claim is spared after the same leaves: it is current, and in some one folded option its leaf may follow in every order with
-- those before it
abbrev pub SameSpared : Type 0
SameSpared = (apart : ℕ → Bool) (w : Schema) → IsWellFormed w → KeepsNamedApart apart w → (s : RunState) (before : List ℕ) (claim : Claim) →
    IsSpared w s before claim ↔ (IsTrue (is_current s claim) × ((o : ChoiceOption) × (o ∈ folded_options_by apart w) ×
    ((order : List ℕ) → IsOrderOf order (before ++ claim.leaf ∷ []) → MayFollow w s o order)))

-- it has an execution, and can go on without the banned leaves after the journal and the leaves that are to follow
pub record CanStillGo (s : RunState) (o : ChoiceOption) (next : List ℕ) : Type 0 where
  pub has_trace : (t : List ℕ) × OptionTrace o t
  pub avoids : CanAvoid o.resolution (λ n. n ∈ (s.journal ++ next)) (λ n. (ban : ℕ × ℕ) × (ban ∈ s.bans) × (n ≡ ban.1))

-- every order may follow, in one folded option, exactly where it can still go and each order is a ready run of it
abbrev pub FoldedOrdersMayFollow : Type 0
FoldedOrdersMayFollow = (apart : ℕ → Bool) (w : Schema) → IsWellFormed w → KeepsNamedApart apart w → (s : RunState) (o : ChoiceOption) →
    o ∈ folded_options_by apart w → (first list : List ℕ) →
    ((order : List ℕ) → IsOrderOf order list → MayFollow w s o (first ++ order))
    ↔ (CanStillGo s o (first ++ list)
    × ((order : List ℕ) → IsOrderOf order list → IsFoldedRun o.resolution o.order (s.journal ++ (first ++ order))))

-- each may come next after the done leaves, and also after them and each other one
pub record AreFoldedSideBySide (q : Process) (pairs : List (ℕ × ℕ)) (Done : ℕ → Type 0) (list : List ℕ) : Type 0 where
  pub each : Each (IsFoldedReady q pairs Done) list
  pub two : EachTwo (λ x y. IsFoldedReady q pairs (DoneOr Done (x ∷ [])) y) list

-- two at a time suffice for every order, for every set of done leaves, given as the test of its members
abbrev pub FoldedPairsSuffice : Type 0
FoldedPairsSuffice = (q : Process) (pairs : List (ℕ × ℕ)) (done : ℕ → Bool) (list : List ℕ) →
    ((order : List ℕ) → IsOrderOf order list → IsFoldedRunAfter q pairs (λ n. IsTrue (done n)) order)
    ↔ AreFoldedSideBySide q pairs (λ n. IsTrue (done n)) list
