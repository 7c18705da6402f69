-- Resolutions: whose executions they have, which they are, and what their leaves are.
use Rattle.std.proofs.Common.{◌≡◌, ℕ, ◌+◌, ◌*◌, ◌⊎◌, ◌↔◌, List, ◌++◌, length, refl, ap, ◌∙◌, subst, inl, inr, ⊎_elim, slice_get, Some, length-append, arith}
use Rattle.std.proofs.lemmas.List.{length-map}
use Rattle.flow_model.specs.Lists.{◌∈◌, AreDistinct, each_with_each, joined}
use Rattle.flow_model.specs.Process.{Process, Empty, Task, Sequence, Parallel, Choice, Isolated, leaves, IsChoiceFree}
use Rattle.flow_model.specs.Trace.{Shuffle, Blocks, Trace}
use Rattle.flow_model.specs.Resolution.{resolutions, resolution_count}
use Rattle.flow_laws.specs.Resolutions.{Resolves}
use Rattle.flow_model.proofs.Lists.{mem_append_left, mem_append_right, mem-append, mem_by_halves, distinct_left, distinct_right, distinct_apart, distinct_parts, distinct-append}
use Rattle.flow_model.proofs.MadeLists.{mem-map, of_map, mem-each_with_each, of_each_with_each, length-each_with_each, slice_get-each_with_each, slice_get_append_right}
use Rattle.flow_laws.proofs.Shuffles.{shuffle-append, shuffle-joined, of_shuffle, mem_shuffle_left, mem_shuffle_right}
use Rattle.flow_laws.proofs.TraceLeaves.{joined-as_one, some_blocks, leaf_of_blocks, blocks_of_none}

-- Executions

pub blocks_of_a_resolution : (g : Process) (bs : List (List ℕ)) → Blocks g bs → (q : Process) × (q ∈ resolutions g) × Blocks q bs
blocks_of_a_resolution Empty bs h = (Empty, inl refl, h)
blocks_of_a_resolution (Task n) bs h = (Task n, inl refl, h)
blocks_of_a_resolution (Sequence a b) bs (x, y, ha, hb, e) =
    let (p, ma, ba) = blocks_of_a_resolution a x ha in
    let (q, mb, bb) = blocks_of_a_resolution b y hb in
    (Sequence p q, mem-each_with_each Sequence p q _ _ ma mb, (x, y, ba, bb, e))
blocks_of_a_resolution (Parallel a b) bs (x, y, ha, hb, e) =
    let (p, ma, ba) = blocks_of_a_resolution a x ha in
    let (q, mb, bb) = blocks_of_a_resolution b y hb in
    (Parallel p q, mem-each_with_each Parallel p q _ _ ma mb, (x, y, ba, bb, e))
blocks_of_a_resolution (Choice a b) bs (inl h) =
    let (q, m, k) = blocks_of_a_resolution a bs h in (q, mem_append_left q _ _ m, k)
blocks_of_a_resolution (Choice a b) bs (inr h) =
    let (q, m, k) = blocks_of_a_resolution b bs h in (q, mem_append_right q _ _ m, k)
blocks_of_a_resolution (Isolated a) bs (x, h, e) =
    let (q, m, k) = blocks_of_a_resolution a x h in (Isolated q, mem-map Isolated q _ m, (x, k, e))

pub blocks_of_goal : (g q : Process) (bs : List (List ℕ)) → Resolves g q → Blocks q bs → Blocks g bs
blocks_of_goal (Sequence a b) q bs (p, r, hp, hr, e) h =
    let (x, y, hx, hy, k) = subst (λ s. Blocks s bs) e h in (x, y, blocks_of_goal a p x hp hx, blocks_of_goal b r y hr hy, k)
blocks_of_goal (Parallel a b) q bs (p, r, hp, hr, e) h =
    let (x, y, hx, hy, k) = subst (λ s. Blocks s bs) e h in (x, y, blocks_of_goal a p x hp hx, blocks_of_goal b r y hr hy, k)
blocks_of_goal (Choice a b) q bs k h = grind (arith, k, blocks_of_goal a q bs, blocks_of_goal b q bs, h)
blocks_of_goal (Isolated a) q bs (p, r, e) h = let (x, hx, k) = subst (λ s. Blocks s bs) e h in (x, blocks_of_goal a p x r hx, k)
blocks_of_goal leaf q bs e h = subst (λ p. Blocks p bs) e h

-- Which they are

pub resolves_of : (g q : Process) → q ∈ resolutions g → Resolves g q
resolves_of (Sequence a b) q m = grind (arith, of_each_with_each Sequence q (resolutions a) (resolutions b) m, resolves_of a, resolves_of b)
resolves_of (Parallel a b) q m = grind (arith, of_each_with_each Parallel q (resolutions a) (resolutions b) m, resolves_of a, resolves_of b)
resolves_of (Choice a b) q m = grind (arith, mem-append q (resolutions a) (resolutions b) m, resolves_of a q, resolves_of b q)
resolves_of (Isolated a) q m = grind (arith, of_map Isolated q (resolutions a) m, resolves_of a)
resolves_of leaf q m = ⊎_elim (λ e. e) absurd m

pub mem-resolutions : (g q : Process) → Resolves g q → q ∈ resolutions g
mem-resolutions (Sequence a b) q (x, y, hx, hy, e) = rw e (mem-each_with_each Sequence x y _ _ (mem-resolutions a x hx) (mem-resolutions b y hy))
mem-resolutions (Parallel a b) q (x, y, hx, hy, e) = rw e (mem-each_with_each Parallel x y _ _ (mem-resolutions a x hx) (mem-resolutions b y hy))
mem-resolutions (Choice a b) q h = mem_by_halves q (resolutions a) (resolutions b) (mem-resolutions a q) (mem-resolutions b q) h
mem-resolutions (Isolated a) q (x, h, e) = rw e (mem-map Isolated x _ (mem-resolutions a x h))
mem-resolutions leaf q e = inl e

-- Their numbers

pub length-resolutions : (g : Process) → length (resolutions g) ≡ resolution_count g
length-resolutions (Sequence a b) = grind (arith, length-each_with_each Sequence (resolutions a) (resolutions b), length-resolutions a, length-resolutions b)
length-resolutions (Parallel a b) = grind (arith, length-each_with_each Parallel (resolutions a) (resolutions b), length-resolutions a, length-resolutions b)
length-resolutions (Choice a b) = grind (arith, length-append (resolutions a) (resolutions b), length-resolutions a, length-resolutions b)
length-resolutions (Isolated a) = length-map (resolutions a) Isolated ∙ length-resolutions a
length-resolutions leaf = refl

-- the number of a resolution of two parts that both stay
pub number_of_both : (f : Process → Process → Process) (a b x y : Process) (i j : ℕ) →
    slice_get (resolutions a) i ≡ Some x → slice_get (resolutions b) j ≡ Some y →
    slice_get (each_with_each f (resolutions a) (resolutions b)) (i * resolution_count b + j) ≡ Some (f x y)
number_of_both f a b x y i j e k =
    subst (λ n. slice_get (each_with_each f (resolutions a) (resolutions b)) (i * n + j) ≡ Some (f x y)) (length-resolutions b)
    (slice_get-each_with_each f (resolutions a) (resolutions b) i j x y e k)

pub number_of_right : (a b x : Process) (i : ℕ) → slice_get (resolutions b) i ≡ Some x →
    slice_get (resolutions a ++ resolutions b) (resolution_count a + i) ≡ Some x
number_of_right a b x i e =
    subst (λ n. slice_get (resolutions a ++ resolutions b) (n + i) ≡ Some x) (length-resolutions a)
    (slice_get_append_right (resolutions a) (resolutions b) i ∙ e)

-- Their leaves

-- each leaf of the one is a leaf of the other, and stands once where it does there
abbrev pub KeepsLeaves : Process → Process → Type 0
KeepsLeaves g q = ((n : ℕ) → n ∈ leaves q → n ∈ leaves g) × (AreDistinct (leaves g) → AreDistinct (leaves q))

pub halves_kept : (a b x y : Process) → KeepsLeaves a x → KeepsLeaves b y → KeepsLeaves (Parallel a b) (Parallel x y)
halves_kept a b x y (of_a, in_a) (of_b, in_b) = (
  λ n m. mem_by_halves n (leaves a) (leaves b) (of_a n) (of_b n) (mem-append n (leaves x) (leaves y) m),
  λ d. let (da, db, apart) = distinct_parts (leaves a) (leaves b) d in
      distinct-append (leaves x) (leaves y) (in_a da) (in_b db) (λ n h k. apart n (of_a n h) (of_b n k)),
)

pub side_kept : (a b q : Process) → KeepsLeaves a q ⊎ KeepsLeaves b q → KeepsLeaves (Choice a b) q
side_kept a b q (inl (of_a, in_a)) = (λ n m. mem_append_left n (leaves a) (leaves b) (of_a n m), λ d. in_a (distinct_left (leaves a) (leaves b) d))
side_kept a b q (inr (of_b, in_b)) = (λ n m. mem_append_right n (leaves a) (leaves b) (of_b n m), λ d. in_b (distinct_right (leaves a) (leaves b) d))

pub kept_leaves : (g q : Process) → Resolves g q → KeepsLeaves g q
kept_leaves (Sequence a b) q (x, y, hx, hy, e) = rw e (halves_kept a b x y (kept_leaves a x hx) (kept_leaves b y hy))
kept_leaves (Parallel a b) q (x, y, hx, hy, e) = rw e (halves_kept a b x y (kept_leaves a x hx) (kept_leaves b y hy))
kept_leaves (Choice a b) q (inl h) = side_kept a b q (inl (kept_leaves a q h))
kept_leaves (Choice a b) q (inr h) = side_kept a b q (inr (kept_leaves b q h))
kept_leaves (Isolated a) q (x, h, e) = rw e (kept_leaves a x h)
kept_leaves leaf q e = rw e (λ n m. m, λ d. d)

pub mem-leaves_of_goal : (g q : Process) → Resolves g q → (n : ℕ) → n ∈ leaves q → n ∈ leaves g
mem-leaves_of_goal g q r = (kept_leaves g q r).0

pub distinct_leaves_of_resolution : (g q : Process) → Resolves g q → AreDistinct (leaves g) → AreDistinct (leaves q)
distinct_leaves_of_resolution g q r = (kept_leaves g q r).1

pub choice_free_resolution : (g q : Process) → Resolves g q → IsChoiceFree q
choice_free_resolution (Sequence a b) q (x, y, hx, hy, e) = rw e (choice_free_resolution a x hx, choice_free_resolution b y hy)
choice_free_resolution (Parallel a b) q (x, y, hx, hy, e) = rw e (choice_free_resolution a x hx, choice_free_resolution b y hy)
choice_free_resolution (Choice a b) q h = ⊎_elim (choice_free_resolution a q) (choice_free_resolution b q) h
choice_free_resolution (Isolated a) q (x, h, e) = rw e (choice_free_resolution a x h)
choice_free_resolution leaf q e = rw e tt

-- Executions by their leaves

-- the blocks hold just the leaves of the goal
abbrev HasJust : Process → List (List ℕ) → Type 0
HasJust q bs = (n : ℕ) → (n ∈ joined bs) ↔ (n ∈ leaves q)

-- where the goals have no leaf in common, there are none
no_common_leaf : (p q : Process) (bs : List (List ℕ)) → ((n : ℕ) → n ∈ joined bs → ¬ (n ∈ leaves q)) → Blocks p bs → HasJust q bs → Blocks q bs
no_common_leaf p q bs apart h just =
    let none : (n : ℕ) → ¬ (n ∈ joined bs) = λ n m. apart n m ((just n).0 m) in
    let (cs, k) = some_blocks q in
    rw (blocks_of_none p bs h none) (subst (Blocks q) (blocks_of_none q cs k (λ n m. none n ((just n).1 (leaf_of_blocks q cs k n m)))) k)

-- of two halves the blocks hold just the leaves of their own resolutions
halves_have : (a b u v : Process) (x y bs : List (List ℕ)) → AreDistinct (leaves (Parallel a b)) → Resolves a u → Resolves b v → Blocks a x → Blocks b y →
    Shuffle x y bs → HasJust (Parallel u v) bs → HasJust u x × HasJust v y
halves_have a b u v x y bs d hu hv hx hy s just = (λ n. (at n).0, λ n. (at n).1)
  where
    at : (n : ℕ) → ((n ∈ joined x) ↔ (n ∈ leaves u)) × ((n ∈ joined y) ↔ (n ∈ leaves v))
    at n =
        let fact = distinct_apart (leaves a) (leaves b) d n in let other_fact = mem-append n (leaves u) (leaves v) in
        let third_fact = mem_append_left n (leaves u) (leaves v) in let fourth_fact = mem_append_right n (leaves u) (leaves v) in
        let fifth_fact = of_shuffle (shuffle-joined s) n in let sixth_fact = mem_shuffle_left (shuffle-joined s) n in
        let fact_7 = mem_shuffle_right (shuffle-joined s) n in
        grind (arith, just n, leaf_of_blocks a x hx n, leaf_of_blocks b y hy n, mem-leaves_of_goal a u hu n, mem-leaves_of_goal b v hv n)

blocks_by_leaves : (g q : Process) → AreDistinct (leaves g) → Resolves g q → (bs : List (List ℕ)) → Blocks g bs → HasJust q bs → Blocks q bs
blocks_by_leaves (Sequence a b) q d (u, v, hu, hv, e) bs (x, y, hx, hy, i) just =
    let (first, second) = halves_have a b u v x y bs d hu hv hx hy (rw i (shuffle-append x y)) (subst (λ s. HasJust s bs) e just) in
    let (da, db, _) = distinct_parts (leaves a) (leaves b) d in
    rw e (x, y, blocks_by_leaves a u da hu x hx first, blocks_by_leaves b v db hv y hy second, i)
blocks_by_leaves (Parallel a b) q d (u, v, hu, hv, e) bs (x, y, hx, hy, s) just =
    let (first, second) = halves_have a b u v x y bs d hu hv hx hy s (subst (λ s. HasJust s bs) e just) in
    let (da, db, _) = distinct_parts (leaves a) (leaves b) d in
    rw e (x, y, blocks_by_leaves a u da hu x hx first, blocks_by_leaves b v db hv y hy second, s)
blocks_by_leaves (Choice a b) q d (inl r) bs (inl h) just = blocks_by_leaves a q (distinct_left (leaves a) (leaves b) d) r bs h just
blocks_by_leaves (Choice a b) q d (inr r) bs (inr h) just = blocks_by_leaves b q (distinct_right (leaves a) (leaves b) d) r bs h just
blocks_by_leaves (Choice a b) q d (inl r) bs (inr h) just = no_common_leaf b q bs
    (λ n m k. distinct_apart (leaves a) (leaves b) d n (mem-leaves_of_goal a q r n k) (leaf_of_blocks b bs h n m)) h just
blocks_by_leaves (Choice a b) q d (inr r) bs (inl h) just = no_common_leaf a q bs
    (λ n m k. distinct_apart (leaves a) (leaves b) d n (leaf_of_blocks a bs h n m) (mem-leaves_of_goal b q r n k)) h just
blocks_by_leaves (Isolated a) q d (u, r, e) bs (x, h, i) just =
    let inner = subst (λ l. (n : ℕ) → (n ∈ l) ↔ (n ∈ leaves u)) (ap joined i ∙ joined-as_one x) (subst (λ s. HasJust s bs) e just) in
    rw e (x, blocks_by_leaves a u d r x h inner, i)
blocks_by_leaves leaf q d r bs h just = rw r h

pub goal_trace : (g q : Process) → q ∈ resolutions g → (t : List ℕ) → Trace q t → Trace g t
goal_trace g q m t (bs, h, e) = (bs, blocks_of_goal g q bs (resolves_of g q m) h, e)

pub resolution_trace : (g q : Process) → AreDistinct (leaves g) → q ∈ resolutions g → (t : List ℕ) →
    Trace g t → ((n : ℕ) → (n ∈ t) ↔ (n ∈ leaves q)) → Trace q t
resolution_trace g q d m t (bs, h, e) same =
    (bs, blocks_by_leaves g q d (resolves_of g q m) bs h (subst (λ l. (n : ℕ) → (n ∈ l) ↔ (n ∈ leaves q)) e same), e)
