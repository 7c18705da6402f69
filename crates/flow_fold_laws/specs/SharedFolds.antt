-- What choices that stay say of a leaf is said of the whole goal once, for every goal that it folds to.
use Rattle.std.specs.Prelude.{◌≡◌, ℕ, Bool, true, false, IsTrue, List, [], ◌∷◌, ◌++◌, ◌⊎◌, ◌↔◌}
use Rattle.flow_model.specs.Lists.{◌∈◌, AreDistinct}
use Rattle.flow_model.specs.Process.{Process, Empty, Task, Sequence, Parallel, Choice, Isolated, leaves}
use Rattle.flow_model.specs.Folding.{is_foldable, folded_resolutions, choices_of, staying_choices}

-- some choice of the goal, by its two sides, has P of the leaf
abbrev pub InSomeChoice : (Process → Process → ℕ → Type 0) → Process → ℕ → Type 0
InSomeChoice P Empty n = ⊥
InSomeChoice P (Task k) n = ⊥
InSomeChoice P (Sequence a b) n = InSomeChoice P a n ⊎ InSomeChoice P b n
InSomeChoice P (Parallel a b) n = InSomeChoice P a n ⊎ InSomeChoice P b n
InSomeChoice P (Choice a b) n = P a b n ⊎ (InSomeChoice P a n ⊎ InSomeChoice P b n)
InSomeChoice P (Isolated a) n = InSomeChoice P a n

-- some choice that stays has, or some choice in one that stays
abbrev pub InSomeFold : (ℕ → Bool) → (Process → Process → ℕ → Type 0) → Process → ℕ → Type 0
InSomeFold apart P Empty n = ⊥
InSomeFold apart P (Task k) n = ⊥
InSomeFold apart P (Sequence a b) n = InSomeFold apart P a n ⊎ InSomeFold apart P b n
InSomeFold apart P (Parallel a b) n = InSomeFold apart P a n ⊎ InSomeFold apart P b n
InSomeFold apart P (Choice a b) n =
    ((is_foldable apart (Choice a b) ≡ true) × InSomeChoice P (Choice a b) n)
    ⊎ ((is_foldable apart (Choice a b) ≡ false) × (InSomeFold apart P a n ⊎ InSomeFold apart P b n))
InSomeFold apart P (Isolated a) n = ⊥

-- Of a leaf that a folded resolution has, some choice of it says what some choice of the goal says that stays, where each
-- choice speaks of its own leaves alone.
abbrev pub FoldedChoicesAreShared : Type 0
FoldedChoicesAreShared = (apart : ℕ → Bool) (says : Process → Process → ℕ → Bool) →
    ((a b : Process) (n : ℕ) → says a b n ≡ true → n ∈ (leaves a ++ leaves b)) →
    (g q : Process) → AreDistinct (leaves g) → q ∈ folded_resolutions apart g → (n : ℕ) → n ∈ leaves q →
    InSomeChoice (λ a b m. IsTrue (says a b m)) q n ↔ InSomeFold apart (λ a b m. IsTrue (says a b m)) g n

-- the list tells the choices in their order: each entry is that of one of them, or another one
abbrev pub TellsChoices : {R : Type 0} → ((Process × Process) → R → Type 0) → (R → Type 0) → List (Process × Process) → List R → Type 0
TellsChoices Is IsOther choices [] = choices ≡ []
TellsChoices Is IsOther choices (entry ∷ list) =
    ((choice : Process × Process) × (more : List (Process × Process)) × (choices ≡ choice ∷ more) × Is choice entry × TellsChoices Is IsOther more list)
    ⊎ (IsOther entry × TellsChoices Is IsOther choices list)

-- the choices that stay are those of each goal that it folds to, and others that have none of its leaves
abbrev pub StayingChoicesServeEach : Type 0
StayingChoicesServeEach = (apart : ℕ → Bool) (g q : Process) → AreDistinct (leaves g) → q ∈ folded_resolutions apart g →
    TellsChoices (λ choice entry. choice ≡ entry) (λ entry. (n : ℕ) → n ∈ leaves q → ¬ (n ∈ (leaves entry.0 ++ leaves entry.1)))
    (choices_of q) (staying_choices apart g)
