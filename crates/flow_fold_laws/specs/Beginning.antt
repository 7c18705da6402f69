-- Which leaf may be begun next, where a goal whose choices are folded can go on without the banned ones.
use Rattle.std.specs.Prelude.{◌≡◌, ℕ, Bool, false, ◌&&◌, ◌||◌, ◌==◌, IsTrue, List, [], ◌∷◌, ◌↔◌}
use Rattle.std.specs.List.{list_any}
use Rattle.flow_model.specs.Lists.{◌∈◌, AreDistinct}
use Rattle.flow_model.specs.Process.{Process, leaves}
use Rattle.flow_model.specs.Ready.{DoneOr}
use Rattle.flow_model.specs.Folding.{IsFolded, choices_of}
use Rattle.flow_model.specs.FoldedRun.{CanAvoid}
use Rattle.flow_fold_laws.specs.FoldedRows.{spoiled_by_choice}

-- What is barred when one more choice was looked at: besides, all of a side that something spoils, or whose other side is begun.
abbrev pub barred_by_choice : (ℕ → Bool) → (ℕ → Bool) → (ℕ → Bool) → List ℕ → List ℕ → ℕ → Bool
barred_by_choice begun spoils barred left right n =
    barred n || ((list_any (λ x. x == n) left && (list_any spoils left || list_any begun right))
    || (list_any (λ x. x == n) right && (list_any spoils right || list_any begun left)))

-- what is barred when choices were looked at in turn
abbrev pub barred_by : List (Process × Process) → (ℕ → Bool) → (ℕ → Bool) → (ℕ → Bool) → ℕ → Bool
barred_by [] begun spoils barred n = barred n
barred_by (choice ∷ more) begun spoils barred n =
    barred_by more begun (spoiled_by_choice begun spoils (leaves choice.0) (leaves choice.1))
    (barred_by_choice begun spoils barred (leaves choice.0) (leaves choice.1)) n

-- where the goal can go on, going through the choices once, inner ones first, tells which leaves may be begun
abbrev pub MayBeginByOnePass : Type 0
MayBeginByOnePass = (q : Process) (begun banned : ℕ → Bool) → IsFolded q → AreDistinct (leaves q) →
    CanAvoid q (λ n. IsTrue (begun n)) (λ n. IsTrue (banned n)) → (n : ℕ) → n ∈ leaves q →
    CanAvoid q (DoneOr (λ m. IsTrue (begun m)) (n ∷ [])) (λ m. IsTrue (banned m)) ↔ (barred_by (choices_of q) begun banned banned n ≡ false)
