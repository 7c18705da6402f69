-- Goals in which the choices stay that a test lets stay: how many there are, in which order, and what each has.
use Rattle.std.specs.Prelude.{◌≡◌, ℕ, ◌+◌, ◌*◌, Bool, true, false, [], length, Some, slice_get, ◌↔◌}
use Rattle.flow_model.specs.Lists.{◌∈◌}
use Rattle.flow_model.specs.Process.{Process, Sequence, Parallel, Choice, leaves}
use Rattle.flow_model.specs.Trace.{Blocks}
use Rattle.flow_model.specs.Folding.{may_be_empty, is_foldable, folded_resolutions, folded_count, IsFolded}

-- whether a goal may be executed with no block is seen in the goal
abbrev pub EmptinessIsSeen : Type 0
EmptinessIsSeen = (g : Process) → (may_be_empty g ≡ true) ↔ Blocks g []

-- as many as are counted
abbrev pub FoldedResolutionsAreCounted : Type 0
FoldedResolutionsAreCounted = (apart : ℕ → Bool) (g : Process) → length (folded_resolutions apart g) ≡ folded_count apart g

-- each number is that of one
abbrev pub FoldedResolutionsAreNumbered : Type 0
FoldedResolutionsAreNumbered = (apart : ℕ → Bool) →
    ((a b x y : Process) (i j : ℕ) → slice_get (folded_resolutions apart a) i ≡ Some x → slice_get (folded_resolutions apart b) j ≡ Some y →
    (slice_get (folded_resolutions apart (Sequence a b)) (i * folded_count apart b + j) ≡ Some (Sequence x y))
    × (slice_get (folded_resolutions apart (Parallel a b)) (i * folded_count apart b + j) ≡ Some (Parallel x y)))
    × ((a b x : Process) (i : ℕ) → is_foldable apart (Choice a b) ≡ false → slice_get (folded_resolutions apart a) i ≡ Some x →
    slice_get (folded_resolutions apart (Choice a b)) i ≡ Some x)
    × ((a b x : Process) (i : ℕ) → is_foldable apart (Choice a b) ≡ false → slice_get (folded_resolutions apart b) i ≡ Some x →
    slice_get (folded_resolutions apart (Choice a b)) (folded_count apart a + i) ≡ Some x)
    × ((a b : Process) → is_foldable apart (Choice a b) ≡ true → slice_get (folded_resolutions apart (Choice a b)) 0 ≡ Some (Choice a b))

-- each is folded, and its leaves are leaves of the goal
abbrev pub FoldedResolutionsAreFolded : Type 0
FoldedResolutionsAreFolded = (apart : ℕ → Bool) (g q : Process) → q ∈ folded_resolutions apart g →
    IsFolded q × ((n : ℕ) → n ∈ leaves q → n ∈ leaves g)
