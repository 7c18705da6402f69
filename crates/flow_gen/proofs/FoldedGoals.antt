-- Where choices stay, there are no more resolutions, and none has more leaves than the goal.
use Rattle.std.proofs.Common.{ℕ, ◌+◌, ◌≤◌, Bool, true, false, if◌then◌else◌, List, ◌++◌, length, arith, inl, inr, length-append}
use Rattle.std.proofs.Math.Nat.{mul-le-mul}
use Rattle.flow_model.specs.Process.{Process, Empty, Task, Sequence, Parallel, Choice, Isolated, leaves}
use Rattle.flow_model.specs.Resolution.{resolution_count}
use Rattle.flow_model.specs.Folding.{folded_count, is_foldable}
use Rattle.flow_laws.specs.Resolutions.{Resolves}
use Rattle.flow_laws.proofs.FoldingLemmas.{FoldsTo}

-- as many at least as one
some_resolution : (g : Process) → 1 ≤ resolution_count g
some_resolution Empty = omega arith
some_resolution (Task n) = omega arith
some_resolution (Sequence a b) = mul-le-mul (some_resolution a) (some_resolution b)
some_resolution (Parallel a b) = mul-le-mul (some_resolution a) (some_resolution b)
some_resolution (Choice a b) = omega (arith, some_resolution a)
some_resolution (Isolated a) = some_resolution a

one_or_both : (stays : Bool) (a b m n : ℕ) → 1 ≤ a → m ≤ a → n ≤ b → (if stays then 1 else m + n) ≤ a + b
one_or_both true a b m n some h k = omega (arith, some)
one_or_both false a b m n some h k = omega (arith, h, k)

pub fewer_resolutions : (apart : ℕ → Bool) (g : Process) → folded_count apart g ≤ resolution_count g
fewer_resolutions apart Empty = omega arith
fewer_resolutions apart (Task n) = omega arith
fewer_resolutions apart (Sequence a b) = mul-le-mul (fewer_resolutions apart a) (fewer_resolutions apart b)
fewer_resolutions apart (Parallel a b) = mul-le-mul (fewer_resolutions apart a) (fewer_resolutions apart b)
fewer_resolutions apart (Choice a b) =
    one_or_both (is_foldable apart (Choice a b)) (resolution_count a) (resolution_count b) (folded_count apart a) (folded_count apart b)
    (some_resolution a) (fewer_resolutions apart a) (fewer_resolutions apart b)
fewer_resolutions apart (Isolated a) = omega arith

-- leaves

halves_fewer : (a b x y : List ℕ) → length x ≤ length a → length y ≤ length b → length (x ++ y) ≤ length (a ++ b)
halves_fewer a b x y h k = omega (arith, h, k, length-append a b, length-append x y)

resolved_fewer : (g q : Process) → Resolves g q → length (leaves q) ≤ length (leaves g)
resolved_fewer (Sequence a b) q (x, y, hx, hy, e) = rw e (halves_fewer (leaves a) (leaves b) (leaves x) (leaves y) (resolved_fewer a x hx) (resolved_fewer b y hy))
resolved_fewer (Parallel a b) q (x, y, hx, hy, e) = rw e (halves_fewer (leaves a) (leaves b) (leaves x) (leaves y) (resolved_fewer a x hx) (resolved_fewer b y hy))
resolved_fewer (Choice a b) q (inl h) = omega (arith, length-append (leaves a) (leaves b), resolved_fewer a q h)
resolved_fewer (Choice a b) q (inr h) = omega (arith, length-append (leaves a) (leaves b), resolved_fewer b q h)
resolved_fewer (Isolated a) q (x, h, e) = rw e (resolved_fewer a x h)
resolved_fewer leaf q e = rw e (omega arith)

pub fewer_leaves : (apart : ℕ → Bool) (g q : Process) → FoldsTo apart g q → length (leaves q) ≤ length (leaves g)
fewer_leaves apart (Sequence a b) q (x, y, hx, hy, e) = rw e (halves_fewer (leaves a) (leaves b) (leaves x) (leaves y) (fewer_leaves apart a x hx) (fewer_leaves apart b y hy))
fewer_leaves apart (Parallel a b) q (x, y, hx, hy, e) = rw e (halves_fewer (leaves a) (leaves b) (leaves x) (leaves y) (fewer_leaves apart a x hx) (fewer_leaves apart b y hy))
fewer_leaves apart (Choice a b) q (inl (stays, e)) = rw e (omega arith)
fewer_leaves apart (Choice a b) q (inr (goes, inl h)) = omega (arith, length-append (leaves a) (leaves b), fewer_leaves apart a q h)
fewer_leaves apart (Choice a b) q (inr (goes, inr h)) = omega (arith, length-append (leaves a) (leaves b), fewer_leaves apart b q h)
fewer_leaves apart (Isolated a) q (x, h, e) = rw e (resolved_fewer a x h)
fewer_leaves apart leaf q e = rw e (omega arith)
