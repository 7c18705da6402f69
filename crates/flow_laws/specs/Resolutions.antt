-- The executions of a goal are those of its resolutions, and the numbering covers each once.
use Rattle.std.specs.Prelude.{◌≡◌, ℕ, ◌+◌, ◌*◌, length, Some, slice_get, ◌⊎◌}
use Rattle.flow_model.specs.Process.{Process, Empty, Task, Sequence, Parallel, Choice, Isolated}
use Rattle.flow_model.specs.Resolution.{resolutions, resolution_count}

-- the second goal is the first with one side taken at each choice
abbrev pub Resolves : Process → Process → Type 0
Resolves Empty q = q ≡ Empty
Resolves (Task n) q = q ≡ Task n
Resolves (Sequence a b) q = (x y : Process) × Resolves a x × Resolves b y × (q ≡ Sequence x y)
Resolves (Parallel a b) q = (x y : Process) × Resolves a x × Resolves b y × (q ≡ Parallel x y)
Resolves (Choice a b) q = Resolves a q ⊎ Resolves b q
Resolves (Isolated a) q = (x : Process) × Resolves a x × (q ≡ Isolated x)

-- as many as are counted, and each number is that of one
abbrev pub ResolutionsAreNumbered : Type 0
ResolutionsAreNumbered =
    ((g : Process) → length (resolutions g) ≡ resolution_count g)
    × ((a b x y : Process) (i j : ℕ) → slice_get (resolutions a) i ≡ Some x → slice_get (resolutions b) j ≡ Some y →
    (slice_get (resolutions (Sequence a b)) (i * resolution_count b + j) ≡ Some (Sequence x y))
    × (slice_get (resolutions (Parallel a b)) (i * resolution_count b + j) ≡ Some (Parallel x y)))
    × ((a b x : Process) (i : ℕ) → slice_get (resolutions a) i ≡ Some x → slice_get (resolutions (Choice a b)) i ≡ Some x)
    × ((a b x : Process) (i : ℕ) → slice_get (resolutions b) i ≡ Some x →
    slice_get (resolutions (Choice a b)) (resolution_count a + i) ≡ Some x)
