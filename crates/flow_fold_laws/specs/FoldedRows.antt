-- Readiness where choices are folded, as rows of leaves see it: by the leaves that are done or in a finished choice.
use Rattle.std.specs.Prelude.{◌≡◌, ℕ, Bool, false, not, ◌&&◌, ◌||◌, ◌==◌, if◌then◌else◌, IsTrue, List, [], ◌∷◌, ◌++◌, ◌⊎◌, ◌↔◌}
use Rattle.std.specs.List.{list_any}
use Rattle.flow_model.specs.Lists.{◌∈◌, Each, AreDistinct, Begins}
use Rattle.flow_model.specs.Process.{Process, Empty, Task, Sequence, Parallel, Choice, Isolated, leaves}
use Rattle.flow_model.specs.Ready.{InSequence, DirectlyBefore, isolated_parts}
use Rattle.flow_model.specs.Schema.{Schema}
use Rattle.flow_model.specs.Resolution.{ChoiceOption, OptionTrace}
use Rattle.flow_model.specs.Folding.{IsFolded, choices_of, folded_options_by}
use Rattle.flow_model.specs.FoldedReady.{IsFinished, IsClosedOff, IsItsTurn, IsFoldedReady, IsFoldedRun}
use Rattle.flow_model.specs.FoldedRun.{CanAvoid}
use Rattle.flow_laws.specs.WellFormed.{IsWellFormed}
use Rattle.flow_fold_laws.specs.Unfolding.{IsFoldedOrdered}

-- the leaf lies in a choice that is finished
abbrev pub IsInFinishedChoice : Process → (ℕ → Type 0) → ℕ → Type 0
IsInFinishedChoice Empty D n = ⊥
IsInFinishedChoice (Task k) D n = ⊥
IsInFinishedChoice (Sequence a b) D n = IsInFinishedChoice a D n ⊎ IsInFinishedChoice b D n
IsInFinishedChoice (Parallel a b) D n = IsInFinishedChoice a D n ⊎ IsInFinishedChoice b D n
IsInFinishedChoice (Choice a b) D n =
    ((n ∈ leaves (Choice a b)) × IsFinished (Choice a b) D) ⊎ (IsInFinishedChoice a D n ⊎ IsInFinishedChoice b D n)
IsInFinishedChoice (Isolated a) D n = IsInFinishedChoice a D n

-- done, or in a choice that is finished
abbrev pub IsSettled : Process → (ℕ → Type 0) → ℕ → Type 0
IsSettled q D n = D n ⊎ IsInFinishedChoice q D n

-- a goal is finished exactly where its leaves are settled; the done leaves are given as the test of their members
abbrev pub FinishedBySettled : Type 0
FinishedBySettled = (q : Process) (done : ℕ → Bool) → AreDistinct (leaves q) →
    IsFinished q (λ n. IsTrue (done n)) ↔ ((x : ℕ) → x ∈ leaves q → IsSettled q (λ n. IsTrue (done n)) x)

-- it is the turn of a leaf that is not closed off exactly where what stands in sequence before it is settled
abbrev pub TurnsBySettled : Type 0
TurnsBySettled = (q : Process) (done : ℕ → Bool) → IsFolded q → AreDistinct (leaves q) →
    (n : ℕ) → n ∈ leaves q → ¬ (IsClosedOff q (λ m. IsTrue (done m)) n) →
    IsItsTurn q (λ m. IsTrue (done m)) n ↔ ((x : ℕ) → InSequence q x n → IsSettled q (λ m. IsTrue (done m)) x)

-- an option has an execution that goes on from a list and holds none of the banned leaves exactly where it has one at all,
-- the list is a ready run, and the goal can avoid them
abbrev pub ExecutionsAvoid : Type 0
ExecutionsAvoid = (apart : ℕ → Bool) (w : Schema) → IsWellFormed w → (o : ChoiceOption) → o ∈ folded_options_by apart w → (front banned : List ℕ) →
    ((t : List ℕ) × OptionTrace o t × Begins t front × Each (λ n. ¬ (n ∈ t)) banned)
    ↔ (((t : List ℕ) × OptionTrace o t) × IsFoldedRun o.resolution o.order front × CanAvoid o.resolution (λ n. n ∈ front) (λ n. n ∈ banned))

-- all leaves of the goal are in the set
abbrev pub Covers : (ℕ → Type 0) → Process → Type 0
Covers S g = (x : ℕ) → x ∈ leaves g → S x

-- the set with the leaves of each choice added, in turn, one of whose sides it covers
abbrev pub Settling : List (Process × Process) → (ℕ → Type 0) → ℕ → Type 0
Settling [] S n = S n
Settling (choice ∷ more) S n =
    Settling more (λ x. S x ⊎ ((x ∈ (leaves choice.0 ++ leaves choice.1)) × (Covers S choice.0 ⊎ Covers S choice.1))) n

-- going through the choices once, inner ones first, gives the settled leaves
abbrev pub SettledInOnePass : Type 0
SettledInOnePass = (q : Process) (done : ℕ → Bool) → AreDistinct (leaves q) → (n : ℕ) →
    Settling (choices_of q) (λ x. IsTrue (done x)) n ↔ IsSettled q (λ x. IsTrue (done x)) n

-- What spoils a goal when one more choice was looked at: where neither side can be taken, since something spoils it or
-- the other is begun, the whole choice does, and else no leaf of it.
abbrev pub spoiled_by_choice : (ℕ → Bool) → (ℕ → Bool) → List ℕ → List ℕ → ℕ → Bool
spoiled_by_choice begun spoils left right n =
    if (list_any spoils left || list_any begun right) && (list_any spoils right || list_any begun left)
    then spoils n || list_any (λ x. x == n) (left ++ right)
    else spoils n && not (list_any (λ x. x == n) (left ++ right))

-- what spoils a goal when its choices were looked at in turn
abbrev pub spoiled_by : List (Process × Process) → (ℕ → Bool) → (ℕ → Bool) → ℕ → Bool
spoiled_by [] begun spoils n = spoils n
spoiled_by (choice ∷ more) begun spoils n =
    spoiled_by more begun (spoiled_by_choice begun spoils (leaves choice.0) (leaves choice.1)) n

-- going through the choices once, inner ones first, tells whether the banned leaves can be avoided
abbrev pub AvoidedInOnePass : Type 0
AvoidedInOnePass = (q : Process) (begun banned : ℕ → Bool) → IsFolded q → AreDistinct (leaves q) →
    CanAvoid q (λ n. IsTrue (begun n)) (λ n. IsTrue (banned n))
    ↔ (list_any (spoiled_by (choices_of q) begun banned) (leaves q) ≡ false)

-- what rows of leaves ask of a leaf that is to come next
pub record IsReadyByRows (q : Process) (pairs : List (ℕ × ℕ)) (Done : ℕ → Type 0) (n : ℕ) : Type 0 where
  pub leaf : n ∈ leaves q
  pub not_done : ¬ Done n
  pub not_closed : ¬ (IsClosedOff q Done n)
  -- what stands directly before it is settled
  pub before : (x : ℕ) → DirectlyBefore q pairs x n → IsSettled q Done x
  -- an isolated part that lacks it and is begun is done
  pub outside : (part : Process) → part ∈ isolated_parts q → ¬ (n ∈ leaves part) →
      (x y : ℕ) → x ∈ leaves part → Done x → y ∈ leaves part → Done y
  -- an isolated part that it would begin waits for nothing outside
  pub begins : (part : Process) → part ∈ isolated_parts q → n ∈ leaves part → ((x : ℕ) → x ∈ leaves part → ¬ Done x) →
      (x y : ℕ) → ¬ (x ∈ leaves part) → y ∈ leaves part → DirectlyBefore q pairs x y → IsSettled q Done x

abbrev pub ReadyByRows : Type 0
ReadyByRows = (q : Process) (pairs : List (ℕ × ℕ)) → IsFoldedOrdered q pairs → (done : ℕ → Bool) (n : ℕ) →
    IsFoldedReady q pairs (λ x. IsTrue (done x)) n ↔ IsReadyByRows q pairs (λ x. IsTrue (done x)) n
