-- Of a goal in which choices stay, and an unfolding of it: one side is taken at each choice that stays.
use Rattle.std.proofs.Common.{◌≡◌, ℕ, Bool, true, false, List, [], ◌++◌, inl, inr, refl, sym, ◌∙◌, subst, true≢false}
use Rattle.flow_model.specs.Lists.{◌∈◌, AreDistinct}
use Rattle.flow_model.specs.Process.{Process, Empty, Task, Sequence, Parallel, Choice, Isolated, leaves, IsChoiceFree}
use Rattle.flow_model.specs.Trace.{Blocks}
use Rattle.flow_model.specs.Resolution.{resolutions}
use Rattle.flow_model.specs.Folding.{is_foldable, IsFolded, fixed_leaves}
use Rattle.flow_model.proofs.Lists.{mem_append_left, mem_append_right, mem-append, mem_by_halves, distinct_left, distinct_right, distinct_parts, each_to}
use Rattle.flow_laws.specs.Resolutions.{Resolves}
use Rattle.flow_laws.specs.WellFormed.{IsOrdered}
use Rattle.flow_laws.proofs.TraceLeaves.{some_blocks, leaf_of_blocks, blocks_of_none}
use Rattle.flow_laws.proofs.ResolutionsLemmas.{resolves_of, blocks_of_goal, mem-leaves_of_goal, distinct_leaves_of_resolution, choice_free_resolution}
use Rattle.flow_laws.proofs.FoldingLemmas.{FoldsTo, is_folded}
use Rattle.flow_fold_laws.specs.Unfolding.{IsFoldedOrdered}

-- Where no choice is left

pub resolves_itself : (q : Process) → IsChoiceFree q → Resolves q q
resolves_itself Empty free = refl
resolves_itself (Task n) free = refl
resolves_itself (Sequence a b) free = (a, b, resolves_itself a free.0, resolves_itself b free.1, refl)
resolves_itself (Parallel a b) free = (a, b, resolves_itself a free.0, resolves_itself b free.1, refl)
resolves_itself (Choice a b) free = absurd free
resolves_itself (Isolated a) free = (a, resolves_itself a free, refl)

pub choice_free_resolves : (q u : Process) → IsChoiceFree q → Resolves q u → u ≡ q
choice_free_resolves (Sequence a b) u free (x, y, hx, hy, e) = rw (e, choice_free_resolves a x free.0 hx, choice_free_resolves b y free.1 hy)
choice_free_resolves (Parallel a b) u free (x, y, hx, hy, e) = rw (e, choice_free_resolves a x free.0 hx, choice_free_resolves b y free.1 hy)
choice_free_resolves (Choice a b) u free h = absurd free
choice_free_resolves (Isolated a) u free (x, h, e) = rw (e, choice_free_resolves a x free h)
choice_free_resolves leaf u free e = e

-- Leaves outside choices

pub fixed_in_goal : (q : Process) (n : ℕ) → n ∈ fixed_leaves q → n ∈ leaves q
fixed_in_goal Empty n m = m
fixed_in_goal (Task k) n m = m
fixed_in_goal (Sequence a b) n m =
    mem_by_halves n (leaves a) (leaves b) (fixed_in_goal a n) (fixed_in_goal b n) (mem-append n (fixed_leaves a) (fixed_leaves b) m)
fixed_in_goal (Parallel a b) n m =
    mem_by_halves n (leaves a) (leaves b) (fixed_in_goal a n) (fixed_in_goal b n) (mem-append n (fixed_leaves a) (fixed_leaves b) m)
fixed_in_goal (Choice a b) n m = absurd m
fixed_in_goal (Isolated a) n m = fixed_in_goal a n m

-- each unfolding has them
pub fixed_in_unfolding : (q u : Process) → Resolves q u → (n : ℕ) → n ∈ fixed_leaves q → n ∈ leaves u
fixed_in_unfolding (Sequence a b) u (x, y, hx, hy, e) n m = rw e
    (mem_by_halves n (leaves x) (leaves y) (fixed_in_unfolding a x hx n) (fixed_in_unfolding b y hy n) (mem-append n (fixed_leaves a) (fixed_leaves b) m))
fixed_in_unfolding (Parallel a b) u (x, y, hx, hy, e) n m = rw e
    (mem_by_halves n (leaves x) (leaves y) (fixed_in_unfolding a x hx n) (fixed_in_unfolding b y hy n) (mem-append n (fixed_leaves a) (fixed_leaves b) m))
fixed_in_unfolding (Choice a b) u h n m = absurd m
fixed_in_unfolding (Isolated a) u (x, h, e) n m = rw e (fixed_in_unfolding a x h n m)
fixed_in_unfolding leaf u e n m = rw e m

-- with the same pairs it is ordered
pub unfolding_is_ordered : (q u : Process) (pairs : List (ℕ × ℕ)) → IsFoldedOrdered q pairs → u ∈ resolutions q → IsOrdered u pairs
unfolding_is_ordered q u pairs o m = let r = resolves_of q u m in record {
  choice_free = choice_free_resolution q u r;
  distinct = distinct_leaves_of_resolution q u r o.distinct;
  of_leaves = each_to (λ pair. (pair.0 ∈ fixed_leaves q) × (pair.1 ∈ fixed_leaves q)) (λ pair. (pair.0 ∈ leaves u) × (pair.1 ∈ leaves u)) pairs
      (λ pair (first, second). (fixed_in_unfolding q u r pair.0 first, fixed_in_unfolding q u r pair.1 second)) o.of_fixed;
  different = o.different;
}

-- Resolutions of a goal, by way of a goal that it folds to

pub resolves_on : (apart : ℕ → Bool) (g q u : Process) → FoldsTo apart g q → Resolves q u → Resolves g u
resolves_on apart (Sequence a b) q u (x, y, hx, hy, e) r =
    let (v, w, rv, rw, i) = subst (λ p. Resolves p u) e r in (v, w, resolves_on apart a x v hx rv, resolves_on apart b y w hy rw, i)
resolves_on apart (Parallel a b) q u (x, y, hx, hy, e) r =
    let (v, w, rv, rw, i) = subst (λ p. Resolves p u) e r in (v, w, resolves_on apart a x v hx rv, resolves_on apart b y w hy rw, i)
resolves_on apart (Choice a b) q u (inl (stays, e)) r = subst (λ p. Resolves p u) e r
resolves_on apart (Choice a b) q u (inr (goes, inl h)) r = inl (resolves_on apart a q u h r)
resolves_on apart (Choice a b) q u (inr (goes, inr h)) r = inr (resolves_on apart b q u h r)
resolves_on apart (Isolated a) q u (x, h, e) r =
    let (v, rv, i) = subst (λ p. Resolves p u) e r in
    (v, subst (Resolves a) (sym (choice_free_resolves x v (choice_free_resolution a x h) rv)) h, i)
resolves_on apart leaf q u e r = subst (λ p. Resolves p u) e r

-- the goal folds to one of which u is a resolution
abbrev pub FoldsBetween : (ℕ → Bool) → Process → Process → Type 0
FoldsBetween apart g u = (q : Process) × FoldsTo apart g q × Resolves q u

choice_between : (apart : ℕ → Bool) (a b u : Process) (stays : Bool) → is_foldable apart (Choice a b) ≡ stays → Resolves (Choice a b) u →
    (Resolves a u → FoldsBetween apart a u) → (Resolves b u → FoldsBetween apart b u) → FoldsBetween apart (Choice a b) u
choice_between apart a b u true e r left right = (Choice a b, inl (e, refl), r)
choice_between apart a b u false e (inl r) left right = let (q, h, k) = left r in (q, inr (e, inl h), k)
choice_between apart a b u false e (inr r) left right = let (q, h, k) = right r in (q, inr (e, inr h), k)

pub folds_between : (apart : ℕ → Bool) (g u : Process) → Resolves g u → FoldsBetween apart g u
folds_between apart Empty u r = (Empty, refl, r)
folds_between apart (Task n) u r = (Task n, refl, r)
folds_between apart (Sequence a b) u (v, w, rv, rw, e) =
    let (x, hx, kx) = folds_between apart a v rv in let (y, hy, ky) = folds_between apart b w rw in
    (Sequence x y, (x, y, hx, hy, refl), (v, w, kx, ky, e))
folds_between apart (Parallel a b) u (v, w, rv, rw, e) =
    let (x, hx, kx) = folds_between apart a v rv in let (y, hy, ky) = folds_between apart b w rw in
    (Parallel x y, (x, y, hx, hy, refl), (v, w, kx, ky, e))
folds_between apart (Choice a b) u r =
    choice_between apart a b u (is_foldable apart (Choice a b)) refl r (folds_between apart a u) (folds_between apart b u)
folds_between apart (Isolated a) u (v, rv, e) = (Isolated v, (v, rv, refl), (v, resolves_itself v (choice_free_resolution a v rv), e))

-- An unfolding is of one alone

abbrev HasNoLeaf : Process → Type 0
HasNoLeaf u = (n : ℕ) → ¬ (n ∈ leaves u)

-- a folded goal that has an unfolding with no leaf has no choice
no_leaf_no_choice : (q u : Process) → IsFolded q → Resolves q u → HasNoLeaf u → u ≡ q
no_leaf_no_choice (Sequence a b) u folded (x, y, hx, hy, e) none =
    let no : (n : ℕ) → ¬ (n ∈ (leaves x ++ leaves y)) = subst HasNoLeaf e none in
    rw (
      e,
      no_leaf_no_choice a x folded.0 hx (λ n m. no n (mem_append_left n (leaves x) (leaves y) m)),
      no_leaf_no_choice b y folded.1 hy (λ n m. no n (mem_append_right n (leaves x) (leaves y) m)),
    )
no_leaf_no_choice (Parallel a b) u folded (x, y, hx, hy, e) none =
    let no : (n : ℕ) → ¬ (n ∈ (leaves x ++ leaves y)) = subst HasNoLeaf e none in
    rw (
      e,
      no_leaf_no_choice a x folded.0 hx (λ n m. no n (mem_append_left n (leaves x) (leaves y) m)),
      no_leaf_no_choice b y folded.1 hy (λ n m. no n (mem_append_right n (leaves x) (leaves y) m)),
    )
no_leaf_no_choice (Choice a b) u folded r none =
    let (bs, h) = some_blocks u in
    let empty = blocks_of_none u bs h (λ n m. none n (leaf_of_blocks u bs h n m)) in
    absurd (folded.0 (blocks_of_goal (Choice a b) u [] r (subst (Blocks u) empty h)))
no_leaf_no_choice (Isolated a) u folded (x, h, e) none = rw (e, choice_free_resolves a x folded h)
no_leaf_no_choice leaf u folded e none = e

-- one unfolding of goals that the two sides fold to has no leaf
one_of_both_sides : (apart : ℕ → Bool) (a b q r u : Process) → AreDistinct (leaves a ++ leaves b) → FoldsTo apart a q → FoldsTo apart b r →
    Resolves q u → Resolves r u → q ≡ r
one_of_both_sides apart a b q r u d hq hr kq kr =
    let none : HasNoLeaf u = λ n m. (distinct_parts (leaves a) (leaves b) d).2 n
    (mem-leaves_of_goal a u (resolves_on apart a q u hq kq) n m) (mem-leaves_of_goal b u (resolves_on apart b r u hr kr) n m) in
    sym (no_leaf_no_choice q u (is_folded apart a q hq) kq none) ∙ no_leaf_no_choice r u (is_folded apart b r hr) kr none

pub folds_to_one : (apart : ℕ → Bool) (g q r u : Process) → AreDistinct (leaves g) → FoldsTo apart g q → FoldsTo apart g r →
    Resolves q u → Resolves r u → q ≡ r
folds_to_one apart (Sequence a b) q r u d (x, y, hx, hy, e) (v, w, hv, hw, i) kq kr =
    let (s, t, ks, kt, f) = subst (λ p. Resolves p u) e kq in
    let (m, n, km, kn, g) = subst (λ p. Resolves p u) i kr in
    let first : s ≡ m = cc in
    let second : t ≡ n = cc in
    let left = folds_to_one apart a x v m (distinct_left (leaves a) (leaves b) d) hx hv (subst (Resolves x) first ks) km in
    let right = folds_to_one apart b y w n (distinct_right (leaves a) (leaves b) d) hy hw (subst (Resolves y) second kt) kn in
    rw (e, i, left, right)
folds_to_one apart (Parallel a b) q r u d (x, y, hx, hy, e) (v, w, hv, hw, i) kq kr =
    let (s, t, ks, kt, f) = subst (λ p. Resolves p u) e kq in
    let (m, n, km, kn, g) = subst (λ p. Resolves p u) i kr in
    let first : s ≡ m = cc in
    let second : t ≡ n = cc in
    let left = folds_to_one apart a x v m (distinct_left (leaves a) (leaves b) d) hx hv (subst (Resolves x) first ks) km in
    let right = folds_to_one apart b y w n (distinct_right (leaves a) (leaves b) d) hy hw (subst (Resolves y) second kt) kn in
    rw (e, i, left, right)
folds_to_one apart (Choice a b) q r u d (inl (stays, e)) (inl (_, i)) kq kr = e ∙ sym i
folds_to_one apart (Choice a b) q r u d (inl (stays, e)) (inr (goes, _)) kq kr = absurd (true≢false (sym stays ∙ goes))
folds_to_one apart (Choice a b) q r u d (inr (goes, _)) (inl (stays, i)) kq kr = absurd (true≢false (sym stays ∙ goes))
folds_to_one apart (Choice a b) q r u d (inr (_, inl hq)) (inr (_, inl hr)) kq kr = folds_to_one apart a q r u (distinct_left (leaves a) (leaves b) d) hq hr kq kr
folds_to_one apart (Choice a b) q r u d (inr (_, inr hq)) (inr (_, inr hr)) kq kr = folds_to_one apart b q r u (distinct_right (leaves a) (leaves b) d) hq hr kq kr
folds_to_one apart (Choice a b) q r u d (inr (_, inl hq)) (inr (_, inr hr)) kq kr = one_of_both_sides apart a b q r u d hq hr kq kr
folds_to_one apart (Choice a b) q r u d (inr (_, inr hq)) (inr (_, inl hr)) kq kr = sym (one_of_both_sides apart a b r q u d hr hq kr kq)
folds_to_one apart (Isolated a) q r u d (x, hx, e) (v, hv, i) kq kr =
    let (s, ks, f) = subst (λ p. Resolves p u) e kq in
    let (t, kt, g) = subst (λ p. Resolves p u) i kr in
    let inner : s ≡ t = cc in
    let same : x ≡ v = sym (choice_free_resolves x s (choice_free_resolution a x hx) ks) ∙ (inner ∙ choice_free_resolves v t (choice_free_resolution a v hv) kt) in
    rw (e, i, same)
folds_to_one apart leaf q r u d e i kq kr = e ∙ sym i
