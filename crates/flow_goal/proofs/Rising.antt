-- Lists of leaves that rise.
use Rattle.std.proofs.Common.{◌≡◌, ◌≤◌, ◌<◌, ℕ, Bool, zero, suc, ◌+◌, List, [], ◌∷◌, ◌++◌, length, slice_get, slice_index, Some, sym, ap, subst, inl, inr, arith}
use Rattle.std.specs.List.Sorted.{IsStrictlyIncreasing}
use Rattle.flow_model.specs.Lists.{numbers_from}
use Rattle.flow_model.specs.Process.{Process, Empty, Task, Sequence, Parallel, Choice, Isolated, leaves, IsNumbered}
use Rattle.flow_model.specs.Folding.{IsFolded, folded_resolutions, outside_choices}
use Rattle.flow_laws.specs.Resolutions.{Resolves}
use Rattle.flow_laws.proofs.FoldingLemmas.{FoldsTo, folds_to, is_folded}
use Rattle.flow_goal.specs.LeftSides.{left_sides}
use Rattle.flow_model.proofs.Lists.{mem-slice_get}

-- the list rises, from the lower bound on and below the upper one
abbrev pub Rises : ℕ → List ℕ → ℕ → Type 0
Rises low [] high = low ≤ high
Rises low (x ∷ xs) high = (low ≤ x) × Rises (x + 1) xs high

pub rises_lower : (lower low high : ℕ) (xs : List ℕ) → lower ≤ low → Rises low xs high → Rises lower xs high
rises_lower lower low high [] le h = omega arith
rises_lower lower low high (x ∷ xs) le h = (omega (arith, h.0), h.1)

pub rises_higher : (low high higher : ℕ) (xs : List ℕ) → high ≤ higher → Rises low xs high → Rises low xs higher
rises_higher low high higher [] le h = omega arith
rises_higher low high higher (x ∷ xs) le h = (h.0, rises_higher (x + 1) high higher xs le h.1)

pub rises-append : (low middle high : ℕ) (xs ys : List ℕ) → Rises low xs middle → Rises middle ys high → Rises low (xs ++ ys) high
rises-append low middle high [] ys h k = rises_lower low middle high ys h k
rises-append low middle high (x ∷ xs) ys h k = (h.0, rises-append (x + 1) middle high xs ys h.1 k)

pub increasing : (low high : ℕ) (xs : List ℕ) → Rises low xs high → IsStrictlyIncreasing xs
increasing low high [] h k lt = omega arith
increasing low high (x ∷ []) h k lt = omega arith
increasing low high (x ∷ y ∷ ys) h zero lt = omega (arith, h.1.0)
increasing low high (x ∷ y ∷ ys) h (suc k) lt =
    let below : k + 1 < length (y ∷ ys) = omega arith in
    let one_on : suc (k + 1) ≡ suc k + 1 = omega arith in
    let next : slice_index (y ∷ ys) (k + 1) ≡ slice_index (x ∷ y ∷ ys) (suc k + 1) = ap (λ i. slice_index (x ∷ y ∷ ys) i) one_on in
    subst (λ n. slice_index (y ∷ ys) k < n) next (increasing (x + 1) high (y ∷ ys) h.1 k below)

-- numbers in a row rise
pub numbers_rise : (low count : ℕ) → Rises low (numbers_from low count) (low + count)
numbers_rise low zero = omega arith
numbers_rise low (suc count) = (omega arith, subst (λ high. Rises (low + 1) (numbers_from (low + 1) count) high) (omega arith) (numbers_rise (low + 1) count))

-- where two lists rise together, each does, the second from where the first ends
pub rises_parts : (low high : ℕ) (xs ys : List ℕ) → Rises low (xs ++ ys) high → (middle : ℕ) × Rises low xs middle × Rises middle ys high
rises_parts low high [] ys h = (low, omega arith, h)
rises_parts low high (x ∷ xs) ys h = let (middle, first, second) = rises_parts (x + 1) high xs ys h.1 in (middle, (h.0, first), second)

pub rises_within : (low high : ℕ) (xs : List ℕ) → Rises low xs high → low ≤ high
rises_within low high [] h = h
rises_within low high (x ∷ xs) h = omega (arith, h.0, rises_within (x + 1) high xs h.1)

-- a list that rises does so from its first number on
rises_from : (x : ℕ) (xs : List ℕ) (low : ℕ) → low ≤ x → IsStrictlyIncreasing (x ∷ xs) → (high : ℕ) × Rises low (x ∷ xs) high
rises_from x [] low le h = (x + 1, (le, omega arith))
rises_from x (y ∷ ys) low le h =
    let first : x < y = h 0 (omega arith) in
    let later : IsStrictlyIncreasing (y ∷ ys) = λ k below.
    let one_on : suc (k + 1) ≡ suc k + 1 = omega arith in
    subst (λ n. slice_index (y ∷ ys) k < n) (sym (ap (λ i. slice_index (x ∷ y ∷ ys) i) one_on)) (h (suc k) (omega arith)) in
    let (high, r) = rises_from y ys (x + 1) (omega arith) later in
    (high, (le, r))

pub rises : (xs : List ℕ) → IsStrictlyIncreasing xs → (high : ℕ) × Rises 0 xs high
rises [] h = (0, omega arith)
rises (x ∷ xs) h = rises_from x xs 0 (omega arith) h

-- what is kept of two lists that rise together rises, where what is kept of each does
both_kept : (low high : ℕ) (xs ys us vs : List ℕ) → ((low high : ℕ) → Rises low xs high → Rises low us high) → ((low high : ℕ) → Rises low ys high → Rises low vs high) →
    Rises low (xs ++ ys) high → Rises low (us ++ vs) high
both_kept low high xs ys us vs p q h =
    let (middle, first, second) = rises_parts low high xs ys h in
    rises-append low middle high us vs (p low middle first) (q middle high second)

-- the leaves of one side
left_rises : (low high : ℕ) (xs ys : List ℕ) → Rises low (xs ++ ys) high → Rises low xs high
left_rises low high xs ys h =
    let (middle, first, second) = rises_parts low high xs ys h in rises_higher low middle high xs (rises_within middle high ys second) first

right_rises : (low high : ℕ) (xs ys : List ℕ) → Rises low (xs ++ ys) high → Rises low ys high
right_rises low high xs ys h =
    let (middle, first, second) = rises_parts low high xs ys h in rises_lower low middle high ys (rises_within low middle xs first) second

-- the leaves of a resolution rise where those of the goal do
pub resolved_rises : (g q : Process) (low high : ℕ) → Rises low (leaves g) high → Resolves g q → Rises low (leaves q) high
resolved_rises (Sequence a b) q low high h (x, y, hx, hy, k) =
    subst (λ q. Rises low (leaves q) high) (sym k)
    (both_kept low high (leaves a) (leaves b) (leaves x) (leaves y) (λ l m r. resolved_rises a x l m r hx) (λ l m r. resolved_rises b y l m r hy) h)
resolved_rises (Parallel a b) q low high h (x, y, hx, hy, k) =
    subst (λ q. Rises low (leaves q) high) (sym k)
    (both_kept low high (leaves a) (leaves b) (leaves x) (leaves y) (λ l m r. resolved_rises a x l m r hx) (λ l m r. resolved_rises b y l m r hy) h)
resolved_rises (Choice a b) q low high h (inl k) = resolved_rises a q low high (left_rises low high (leaves a) (leaves b) h) k
resolved_rises (Choice a b) q low high h (inr k) = resolved_rises b q low high (right_rises low high (leaves a) (leaves b) h) k
resolved_rises (Isolated a) q low high h (x, hx, k) = subst (λ q. Rises low (leaves q) high) (sym k) (resolved_rises a x low high h hx)
resolved_rises leaf q low high h k = subst (λ q. Rises low (leaves q) high) (sym k) h

-- so do those of a resolution in which choices stay
pub folded_rises : (apart : ℕ → Bool) (g q : Process) (low high : ℕ) → Rises low (leaves g) high → FoldsTo apart g q → Rises low (leaves q) high
folded_rises apart (Sequence a b) q low high h (x, y, hx, hy, k) =
    subst (λ q. Rises low (leaves q) high) (sym k)
    (both_kept low high (leaves a) (leaves b) (leaves x) (leaves y) (λ l m r. folded_rises apart a x l m r hx) (λ l m r. folded_rises apart b y l m r hy) h)
folded_rises apart (Parallel a b) q low high h (x, y, hx, hy, k) =
    subst (λ q. Rises low (leaves q) high) (sym k)
    (both_kept low high (leaves a) (leaves b) (leaves x) (leaves y) (λ l m r. folded_rises apart a x l m r hx) (λ l m r. folded_rises apart b y l m r hy) h)
folded_rises apart (Choice a b) q low high h (inl (stays, k)) = subst (λ q. Rises low (leaves q) high) (sym k) h
folded_rises apart (Choice a b) q low high h (inr (goes, inl k)) = folded_rises apart a q low high (left_rises low high (leaves a) (leaves b) h) k
folded_rises apart (Choice a b) q low high h (inr (goes, inr k)) = folded_rises apart b q low high (right_rises low high (leaves a) (leaves b) h) k
folded_rises apart (Isolated a) q low high h (x, hx, k) = subst (λ q. Rises low (leaves q) high) (sym k) (resolved_rises a x low high h hx)
folded_rises apart leaf q low high h k = subst (λ q. Rises low (leaves q) high) (sym k) h

-- and those of the left sides
left_sides_rise : (g : Process) (low high : ℕ) → Rises low (leaves g) high → Rises low (leaves (left_sides g)) high
left_sides_rise (Sequence a b) low high h = both_kept low high (leaves a) (leaves b) _ _ (left_sides_rise a) (left_sides_rise b) h
left_sides_rise (Parallel a b) low high h = both_kept low high (leaves a) (leaves b) _ _ (left_sides_rise a) (left_sides_rise b) h
left_sides_rise (Choice a b) low high h = left_sides_rise a low high (left_rises low high (leaves a) (leaves b) h)
left_sides_rise (Isolated a) low high h = left_sides_rise a low high h
left_sides_rise Empty low high h = h
left_sides_rise (Task n) low high h = h

-- and those outside choices
outside_rises : (g : Process) (low high : ℕ) → Rises low (leaves g) high → Rises low (leaves (outside_choices g)) high
outside_rises (Sequence a b) low high h = both_kept low high (leaves a) (leaves b) _ _ (outside_rises a) (outside_rises b) h
outside_rises (Parallel a b) low high h = both_kept low high (leaves a) (leaves b) _ _ (outside_rises a) (outside_rises b) h
outside_rises (Choice a b) low high h = rises_within low high (leaves (Choice a b)) h
outside_rises (Isolated a) low high h = outside_rises a low high h
outside_rises Empty low high h = h
outside_rises (Task n) low high h = h

pub left_sides_increase : (g : Process) → IsStrictlyIncreasing (leaves g) → IsStrictlyIncreasing (leaves (left_sides g))
left_sides_increase g h = let (high, r) = rises (leaves g) h in increasing 0 high (leaves (left_sides g)) (left_sides_rise g 0 high r)

pub outside_increases : (g : Process) → IsStrictlyIncreasing (leaves g) → IsStrictlyIncreasing (leaves (outside_choices g))
outside_increases g h = let (high, r) = rises (leaves g) h in increasing 0 high (leaves (outside_choices g)) (outside_rises g 0 high r)

-- the leaves of a resolution rise, where those of the goal are numbered
pub resolution_rises : (g q : Process) (low count : ℕ) → leaves g ≡ numbers_from low count → Resolves g q → Rises low (leaves q) (low + count)
resolution_rises g q low count e h =
    resolved_rises g q low (low + count) (subst (λ ns. Rises low ns (low + count)) (sym e) (numbers_rise low count)) h

pub folded_resolution_rises : (apart : ℕ → Bool) (g q : Process) (low count : ℕ) → leaves g ≡ numbers_from low count → FoldsTo apart g q →
    Rises low (leaves q) (low + count)
folded_resolution_rises apart g q low count e h =
    folded_rises apart g q low (low + count) (subst (λ ns. Rises low ns (low + count)) (sym e) (numbers_rise low count)) h

-- what the resolution of a number is
pub resolution_at : (apart : ℕ → Bool) (g q : Process) (i : ℕ) → slice_get (folded_resolutions apart g) i ≡ Some q → FoldsTo apart g q
resolution_at apart g q i e = folds_to apart g q (mem-slice_get (folded_resolutions apart g) i q e)

pub folded_at : (apart : ℕ → Bool) (g q : Process) (i : ℕ) → slice_get (folded_resolutions apart g) i ≡ Some q → IsFolded q
folded_at apart g q i e = is_folded apart g q (resolution_at apart g q i e)

pub increasing_at : (apart : ℕ → Bool) (g q : Process) (i count : ℕ) → IsNumbered g count → slice_get (folded_resolutions apart g) i ≡ Some q →
    IsStrictlyIncreasing (leaves q)
increasing_at apart g q i count numbered e =
    increasing 0 (0 + count) (leaves q) (folded_resolution_rises apart g q 0 count numbered (resolution_at apart g q i e))
