-- Unfoldings of a folded goal that take the begun side of each choice.
use Rattle.std.proofs.Common.{ℕ, List, [], ◌∷◌, ◌++◌, refl, sym, ap, ◌∙◌, subst, inl, inr, ⊎_elim}
use Rattle.flow_model.specs.Lists.{◌∈◌, AreDistinct}
use Rattle.flow_model.specs.Process.{Process, Empty, Task, Sequence, Parallel, Choice, Isolated, leaves, IsChoiceFree}
use Rattle.flow_model.specs.Trace.{Blocks}
use Rattle.flow_model.specs.Ready.{DoneOr}
use Rattle.flow_model.specs.Decided.{Decided, decide_in, decide_some}
use Rattle.flow_model.specs.Folding.{IsFolded}
use Rattle.flow_model.specs.FoldedReady.{IsBegun, IsClosedOff}
use Rattle.flow_laws.specs.Resolutions.{Resolves}
use Rattle.flow_model.proofs.Lists.{Apart, only_one, mem_append_left, mem_append_right, mem-append, mem_by_halves, distinct_apart, distinct_parts}
use Rattle.flow_laws.proofs.ResolutionsLemmas.{mem-leaves_of_goal}
use Rattle.flow_fold_laws.proofs.Unfoldings.{choice_free_resolves}

-- the second goal is the first, which is folded, with one side taken at each choice, and the other side is not begun
pub data Takes (D : ℕ → Type 0) : Process → Process → Type 0 where
  empty : Takes D Empty Empty
  task : {n : ℕ} → Takes D (Task n) (Task n)
  sequence : {a b x y : Process} → Apart (leaves a) (leaves b) → Takes D a x → Takes D b y → Takes D (Sequence a b) (Sequence x y)
  parallel : {a b x y : Process} → Apart (leaves a) (leaves b) → Takes D a x → Takes D b y → Takes D (Parallel a b) (Parallel x y)
  left : {a b x : Process} → Apart (leaves a) (leaves b) → ¬ (Blocks b []) → ¬ (IsBegun b D) → Takes D a x → Takes D (Choice a b) x
  right : {a b y : Process} → Apart (leaves a) (leaves b) → ¬ (Blocks a []) → ¬ (IsBegun a D) → Takes D b y → Takes D (Choice a b) y
  isolated : {a : Process} → Takes D a a → Takes D (Isolated a) (Isolated a)

-- the done leaves of the goal are leaves of the other
abbrev pub Fits : (ℕ → Type 0) → Process → Process → Type 0
Fits D q u = (n : ℕ) → n ∈ leaves q → D n → n ∈ leaves u

-- Which goals take so

pub takes_itself : (D : ℕ → Type 0) (g : Process) → IsChoiceFree g → AreDistinct (leaves g) → Takes D g g
takes_itself D Empty f d = empty
takes_itself D (Task n) f d = task
takes_itself D (Sequence a b) (f, h) d =
    let (da, db, apart) = distinct_parts (leaves a) (leaves b) d in sequence apart (takes_itself D a f da) (takes_itself D b h db)
takes_itself D (Parallel a b) (f, h) d =
    let (da, db, apart) = distinct_parts (leaves a) (leaves b) d in parallel apart (takes_itself D a f da) (takes_itself D b h db)
takes_itself D (Choice a b) f d = absurd f
takes_itself D (Isolated a) f d = isolated (takes_itself D a f d)

-- what one half has of the done leaves, its unfolding has
left_fits : (D : ℕ → Type 0) (a b x y : Process) → AreDistinct (leaves a ++ leaves b) → Resolves b y → Fits D (Parallel a b) (Parallel x y) → Fits D a x
left_fits D a b x y d s f n m e = ⊎_elim (λ k. k) (λ k. absurd (distinct_apart (leaves a) (leaves b) d n m (mem-leaves_of_goal b y s n k)))
    (mem-append n (leaves x) (leaves y) (f n (mem_append_left n (leaves a) (leaves b) m) e))

right_fits : (D : ℕ → Type 0) (a b x y : Process) → AreDistinct (leaves a ++ leaves b) → Resolves a x → Fits D (Parallel a b) (Parallel x y) → Fits D b y
right_fits D a b x y d r f n m e = ⊎_elim (λ k. absurd (distinct_apart (leaves a) (leaves b) d n (mem-leaves_of_goal a x r n k) m)) (λ k. k)
    (mem-append n (leaves x) (leaves y) (f n (mem_append_right n (leaves a) (leaves b) m) e))

pub takes_of : (D : ℕ → Type 0) (q u : Process) → IsFolded q → AreDistinct (leaves q) → Resolves q u → Fits D q u → Takes D q u
takes_of D Empty u f d r fits = subst (Takes D Empty) (sym r) empty
takes_of D (Task n) u f d r fits = subst (Takes D (Task n)) (sym r) task
takes_of D (Sequence a b) u (f, h) d (x, y, r, s, e) fits =
    let (da, db, apart) = distinct_parts (leaves a) (leaves b) d in
    let halves : Fits D (Parallel a b) (Parallel x y) = subst (Fits D (Sequence a b)) e fits in
    subst (Takes D (Sequence a b)) (sym e)
    (sequence apart (takes_of D a x f da r (left_fits D a b x y d s halves)) (takes_of D b y h db s (right_fits D a b x y d r halves)))
takes_of D (Parallel a b) u (f, h) d (x, y, r, s, e) fits =
    let (da, db, apart) = distinct_parts (leaves a) (leaves b) d in
    let halves : Fits D (Parallel a b) (Parallel x y) = subst (Fits D (Parallel a b)) e fits in
    subst (Takes D (Parallel a b)) (sym e)
    (parallel apart (takes_of D a x f da r (left_fits D a b x y d s halves)) (takes_of D b y h db s (right_fits D a b x y d r halves)))
takes_of D (Choice a b) u (busy, f, h) d (inl r) fits =
    let (da, db, apart) = distinct_parts (leaves a) (leaves b) d in
    left apart (λ k. busy (inr k))
    (λ (n, m, e). apart n (mem-leaves_of_goal a u r n (fits n (mem_append_right n (leaves a) (leaves b) m) e)) m)
    (takes_of D a u f da r (λ n m. fits n (mem_append_left n (leaves a) (leaves b) m)))
takes_of D (Choice a b) u (busy, f, h) d (inr s) fits =
    let (da, db, apart) = distinct_parts (leaves a) (leaves b) d in
    right apart (λ k. busy (inl k))
    (λ (n, m, e). apart n m (mem-leaves_of_goal b u s n (fits n (mem_append_left n (leaves a) (leaves b) m) e)))
    (takes_of D b u h db s (λ n m. fits n (mem_append_right n (leaves a) (leaves b) m)))
takes_of D (Isolated a) u f d (x, r, e) fits =
    subst (Takes D (Isolated a)) (sym (e ∙ ap Isolated (choice_free_resolves a x f r))) (isolated (takes_itself D a f d))

-- Where of each choice at most one side is begun

-- of each choice at most one side is begun
abbrev pub IsOneSided : Process → (ℕ → Type 0) → Type 0
IsOneSided Empty D = Unit {0}
IsOneSided (Task n) D = Unit {0}
IsOneSided (Sequence a b) D = IsOneSided a D × IsOneSided b D
IsOneSided (Parallel a b) D = IsOneSided a D × IsOneSided b D
IsOneSided (Choice a b) D = (IsBegun a D → ¬ (IsBegun b D)) × IsOneSided a D × IsOneSided b D
IsOneSided (Isolated a) D = IsOneSided a D

-- some unfolding has all done leaves
pub unfolding_with : (q : Process) (done : List ℕ) → IsOneSided q (λ n. n ∈ done) →
    (u : Process) × Resolves q u × Fits (λ n. n ∈ done) q u
unfolding_with Empty done h = (Empty, refl, λ n m e. m)
unfolding_with (Task k) done h = (Task k, refl, λ n m e. m)
unfolding_with (Sequence a b) done (h, k) =
    let (x, r, f) = unfolding_with a done h in let (y, s, g) = unfolding_with b done k in
    (Sequence x y, (x, y, r, s, refl), λ n m e. mem_by_halves n (leaves x) (leaves y) (λ i. f n i e) (λ i. g n i e) (mem-append n (leaves a) (leaves b) m))
unfolding_with (Parallel a b) done (h, k) =
    let (x, r, f) = unfolding_with a done h in let (y, s, g) = unfolding_with b done k in
    (Parallel x y, (x, y, r, s, refl), λ n m e. mem_by_halves n (leaves x) (leaves y) (λ i. f n i e) (λ i. g n i e) (mem-append n (leaves a) (leaves b) m))
unfolding_with (Choice a b) done (one, h, k) = choose (decide_some (λ n. n ∈ done) (λ n. decide_in n done) (leaves b)) (unfolding_with a done h) (unfolding_with b done k)
  where
    choose : Decided (IsBegun b (λ n. n ∈ done)) → ((x : Process) × Resolves a x × Fits (λ n. n ∈ done) a x) → ((y : Process) × Resolves b y × Fits (λ n. n ∈ done) b y) →
        (u : Process) × Resolves (Choice a b) u × Fits (λ n. n ∈ done) (Choice a b) u
    choose (inl begun) (x, r, f) (y, s, g) =
        (y, inr s, λ n m e. ⊎_elim (λ i. absurd (one (n, i, e) begun)) (λ i. g n i e) (mem-append n (leaves a) (leaves b) m))
    choose (inr none) (x, r, f) (y, s, g) =
        (x, inl r, λ n m e. ⊎_elim (λ i. f n i e) (λ i. absurd (none (n, i, e))) (mem-append n (leaves a) (leaves b) m))
unfolding_with (Isolated a) done h = let (x, r, f) = unfolding_with a done h in (Isolated x, (x, r, refl), f)

pub one_sided_as : (q : Process) (D E : ℕ → Type 0) → ((n : ℕ) → E n → D n) → IsOneSided q D → IsOneSided q E
one_sided_as (Sequence a b) D E from (h, k) = (one_sided_as a D E from h, one_sided_as b D E from k)
one_sided_as (Parallel a b) D E from (h, k) = (one_sided_as a D E from h, one_sided_as b D E from k)
one_sided_as (Choice a b) D E from (one, h, k) =
    (λ (n, m, e) (l, i, o). one (n, m, from n e) (l, i, from l o), one_sided_as a D E from h, one_sided_as b D E from k)
one_sided_as (Isolated a) D E from h = one_sided_as a D E from h
one_sided_as leaf D E from h = tt

pub one_sided_at_first : (q : Process) → IsOneSided q (λ n. ⊥)
one_sided_at_first (Sequence a b) = (one_sided_at_first a, one_sided_at_first b)
one_sided_at_first (Parallel a b) = (one_sided_at_first a, one_sided_at_first b)
one_sided_at_first (Choice a b) = (λ (n, m, e). absurd e, one_sided_at_first a, one_sided_at_first b)
one_sided_at_first (Isolated a) = one_sided_at_first a
one_sided_at_first leaf = tt

-- so it is after one leaf more that is not closed off
pub one_sided_more : (q : Process) (D : ℕ → Type 0) (n : ℕ) → AreDistinct (leaves q) → ¬ (IsClosedOff q D n) → IsOneSided q D →
    IsOneSided q (DoneOr D (n ∷ []))
one_sided_more (Sequence a b) D n d not_closed (h, k) =
    let (da, db, apart) = distinct_parts (leaves a) (leaves b) d in
    (one_sided_more a D n da (λ c. not_closed (inl c)) h, one_sided_more b D n db (λ c. not_closed (inr c)) k)
one_sided_more (Parallel a b) D n d not_closed (h, k) =
    let (da, db, apart) = distinct_parts (leaves a) (leaves b) d in
    (one_sided_more a D n da (λ c. not_closed (inl c)) h, one_sided_more b D n db (λ c. not_closed (inr c)) k)
one_sided_more (Choice a b) D n d not_closed (one, h, k) =
    let (da, db, apart) = distinct_parts (leaves a) (leaves b) d in
    (both, one_sided_more a D n da (λ c. not_closed (inr (inl c))) h, one_sided_more b D n db (λ c. not_closed (inr (inr c))) k)
  where
    both : IsBegun a (DoneOr D (n ∷ [])) → ¬ (IsBegun b (DoneOr D (n ∷ [])))
    both (x, m, inl e) (y, l, inl i) = one (x, m, e) (y, l, i)
    both (x, m, inl e) (y, l, inr i) = not_closed (inl (inr (subst (λ z. z ∈ leaves b) (only_one y n i) l, (x, m, e))))
    both (x, m, inr e) (y, l, inl i) = not_closed (inl (inl (subst (λ z. z ∈ leaves a) (only_one x n e) m, (y, l, i))))
    both (x, m, inr e) (y, l, inr i) =
        distinct_apart (leaves a) (leaves b) d n (subst (λ z. z ∈ leaves a) (only_one x n e) m) (subst (λ z. z ∈ leaves b) (only_one y n i) l)
one_sided_more (Isolated a) D n d not_closed h = one_sided_more a D n d not_closed h
one_sided_more leaf D n d not_closed h = tt
