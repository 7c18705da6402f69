-- Two at a time suffice for every order.
use Rattle.std.specs.Prelude.{ℕ, Bool, IsTrue, List, [], ◌∷◌, ◌++◌, ◌↔◌}
use Rattle.flow_model.specs.Lists.{◌∈◌, Each, IsOrderOf}
use Rattle.flow_model.specs.Process.{Process, leaves}
use Rattle.flow_model.specs.Schema.{Schema}
use Rattle.flow_model.specs.Resolution.{ChoiceOption, OptionTrace, options}
use Rattle.flow_model.specs.Ready.{IsReady, IsReadyRun, IsReadyRunAfter, DoneOr}
use Rattle.flow_model.specs.Run.{RunState, MayFollow}
use Rattle.flow_laws.specs.WellFormed.{IsWellFormed, EachTwo}

-- each may come next after the done leaves, and also after them and each other one
pub record AreSideBySide (q : Process) (pairs : List (ℕ × ℕ)) (Done : ℕ → Type 0) (list : List ℕ) : Type 0 where
  pub each : Each (IsReady q pairs Done) list
  pub two : EachTwo (λ x y. IsReady q pairs (DoneOr Done (x ∷ [])) y) list

-- for every set of done leaves, given as the test of its members
abbrev pub PairsSufficeForOrders : Type 0
PairsSufficeForOrders = (q : Process) (pairs : List (ℕ × ℕ)) (done : ℕ → Bool) (list : List ℕ) →
    ((order : List ℕ) → IsOrderOf order list → IsReadyRunAfter q pairs (λ n. IsTrue (done n)) order)
    ↔ AreSideBySide q pairs (λ n. IsTrue (done n)) list

-- the option is alive after the journal: it has an execution, holds no banned leaf, and the journal is a ready run of it
pub record IsAlive (s : RunState) (o : ChoiceOption) : Type 0 where
  pub has_trace : (t : List ℕ) × OptionTrace o t
  pub unbanned : Each (λ ban. ¬ (ban.1 ∈ leaves o.resolution)) s.bans
  pub journal : IsReadyRun o.resolution o.order s.journal

-- every order may follow, in one option, exactly where the option is alive and the leaves are side by side
abbrev pub OrdersMayFollow : Type 0
OrdersMayFollow = (w : Schema) → IsWellFormed w → (s : RunState) (o : ChoiceOption) → o ∈ options w → (list : List ℕ) →
    ((order : List ℕ) → IsOrderOf order list → MayFollow w s o order)
    ↔ (IsAlive s o × AreSideBySide o.resolution o.order (λ n. n ∈ s.journal) list)

-- the same where one leaf comes first
abbrev pub OrdersMayFollowOne : Type 0
OrdersMayFollowOne = (w : Schema) → IsWellFormed w → (s : RunState) (o : ChoiceOption) → o ∈ options w → (first : ℕ) (list : List ℕ) →
    ((order : List ℕ) → IsOrderOf order list → MayFollow w s o (first ∷ order))
    ↔ (IsAlive s o × IsReady o.resolution o.order (λ n. n ∈ s.journal) first
    × AreSideBySide o.resolution o.order (λ n. n ∈ (s.journal ++ first ∷ [])) list)
