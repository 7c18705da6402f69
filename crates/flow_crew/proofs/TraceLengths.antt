-- How long a trace is.
use Rattle.std.proofs.Common.{◌≡◌, ℕ, ◌+◌, List, ◌++◌, length, refl, ap, ◌∙◌, arith, length-append}
use Rattle.flow_model.specs.Lists.{◌∈◌, joined}
use Rattle.flow_model.specs.Process.{Process, Empty, Task, Sequence, Parallel, Choice, Isolated, leaves, IsChoiceFree}
use Rattle.flow_model.specs.Resolution.{resolutions}
use Rattle.flow_model.specs.Trace.{Shuffle, both_end, from_left, from_right, Blocks, Trace}
use Rattle.flow_model.proofs.MadeLists.{joined-append}
use Rattle.flow_laws.proofs.ResolutionsLemmas.{blocks_of_a_resolution, resolves_of, choice_free_resolution}
use Rattle.flow_laws.proofs.Shuffles.{shuffle-joined}
use Rattle.flow_laws.proofs.TraceLeaves.{joined-as_one}

shuffled : {A : Type 0} {a b c : List A} → Shuffle a b c → length c ≡ length a + length b
shuffled both_end = refl
shuffled (from_left s) = omega (arith, shuffled s)
shuffled (from_right s) = omega (arith, shuffled s)

-- where no choice is left, each leaf is done once
done_once : (q : Process) → IsChoiceFree q → (bs : List (List ℕ)) → Blocks q bs → length (joined bs) ≡ length (leaves q)
done_once Empty free bs is = ap (λ (x : List (List ℕ)). length (joined x)) is
done_once (Task n) free bs is = ap (λ (x : List (List ℕ)). length (joined x)) is
done_once (Sequence a b) (f, g) bs (x, y, p, r, is) =
    let whole : length (joined bs) ≡ length (joined x ++ joined y) = ap (λ (z : List (List ℕ)). length (joined z)) is ∙ ap (λ (t : List ℕ). length t) (joined-append x y) in
    omega (arith, whole, length-append (joined x) (joined y), done_once a f x p, done_once b g y r, length-append (leaves a) (leaves b))
done_once (Parallel a b) (f, g) bs (x, y, p, r, mixed) =
    omega (arith, shuffled (shuffle-joined mixed), done_once a f x p, done_once b g y r, length-append (leaves a) (leaves b))
done_once (Choice a b) free bs h = absurd free
done_once (Isolated a) free bs (x, p, is) =
    ap (λ (z : List (List ℕ)). length (joined z)) is ∙ ap (λ (t : List ℕ). length t) (joined-as_one x) ∙ done_once a free x p

-- a trace is as long as one of the resolutions
pub resolution_done : (g : Process) (t : List ℕ) → Trace g t → (q : Process) × (q ∈ resolutions g) × (length t ≡ length (leaves q))
resolution_done g t (bs, blocks, is) =
    let (q, m, of) = blocks_of_a_resolution g bs blocks in
    (q, m, ap (λ (x : List ℕ). length x) is ∙ done_once q (choice_free_resolution g q (resolves_of g q m)) bs of)
