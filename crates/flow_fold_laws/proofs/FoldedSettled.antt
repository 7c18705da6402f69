-- A goal is finished, and it is the turn of a leaf, by the leaves that are settled: done, or in a choice that is finished.
use Rattle.std.proofs.Common.{ℕ, ◌++◌, ◌⊎◌, IsTrue, refl, sym, subst, inl, inr, ⊎_elim}
use Rattle.flow_model.specs.Lists.{◌∈◌, AreDistinct}
use Rattle.flow_model.specs.Process.{Process, Empty, Task, Sequence, Parallel, Choice, Isolated, leaves}
use Rattle.flow_model.specs.Ready.{InSequence}
use Rattle.flow_model.specs.Folding.{IsFolded}
use Rattle.flow_model.specs.FoldedReady.{IsFinished, IsClosedOff, IsItsTurn}
use Rattle.flow_model.proofs.Lists.{one_or_all, only_one, mem_append_left, mem_append_right, mem-append, mem_by_halves, distinct_parts}
use Rattle.flow_laws.proofs.FoldingLemmas.{folded_where_free}
use Rattle.flow_laws.proofs.GoalParts.{sequence_first, sequence_second}
use Rattle.flow_fold_laws.specs.FoldedRows.{IsInFinishedChoice, IsSettled, FinishedBySettled, TurnsBySettled}
use Rattle.flow_fold_laws.proofs.UnfoldedReady.{nothing_finished}

pub in_choice_leaf : (q : Process) (D : ℕ → Type 0) (n : ℕ) → IsInFinishedChoice q D n → n ∈ leaves q
in_choice_leaf (Sequence a b) D n h = mem_by_halves n (leaves a) (leaves b) (in_choice_leaf a D n) (in_choice_leaf b D n) h
in_choice_leaf (Parallel a b) D n h = mem_by_halves n (leaves a) (leaves b) (in_choice_leaf a D n) (in_choice_leaf b D n) h
in_choice_leaf (Choice a b) D n h = ⊎_elim (λ (m, f). m) (mem_by_halves n (leaves a) (leaves b) (in_choice_leaf a D n) (in_choice_leaf b D n)) h
in_choice_leaf (Isolated a) D n h = in_choice_leaf a D n h
in_choice_leaf leaf D n h = absurd h

-- Of two halves

-- done, or in a finished choice of one of the halves
abbrev pub IsSettledInHalf : Process → Process → (ℕ → Type 0) → ℕ → Type 0
IsSettledInHalf a b D n = D n ⊎ (IsInFinishedChoice a D n ⊎ IsInFinishedChoice b D n)

in_left : (a b : Process) (D : ℕ → Type 0) (n : ℕ) → IsSettled a D n → IsSettledInHalf a b D n
in_left a b D n = ⊎_elim inl (λ h. inr (inl h))

in_right : (a b : Process) (D : ℕ → Type 0) (n : ℕ) → IsSettled b D n → IsSettledInHalf a b D n
in_right a b D n = ⊎_elim inl (λ h. inr (inr h))

pub of_left : (a b : Process) (D : ℕ → Type 0) (n : ℕ) → AreDistinct (leaves a ++ leaves b) → n ∈ leaves a → IsSettledInHalf a b D n → IsSettled a D n
of_left a b D n d m = let (da, db, apart) = distinct_parts (leaves a) (leaves b) d in
    ⊎_elim inl (⊎_elim inr (λ h. absurd (apart n m (in_choice_leaf b D n h))))

pub of_right : (a b : Process) (D : ℕ → Type 0) (n : ℕ) → AreDistinct (leaves a ++ leaves b) → n ∈ leaves b → IsSettledInHalf a b D n → IsSettled b D n
of_right a b D n d m = let (da, db, apart) = distinct_parts (leaves a) (leaves b) d in
    ⊎_elim inl (⊎_elim (λ h. absurd (apart n (in_choice_leaf a D n h) m)) inr)

-- of a choice the leaf is settled by a side that is finished, or in a half
pub of_choice : (a b : Process) (D : ℕ → Type 0) (n : ℕ) → IsSettled (Choice a b) D n → IsFinished (Choice a b) D ⊎ IsSettledInHalf a b D n
of_choice a b D n = ⊎_elim (λ d. inr (inl d)) (⊎_elim (λ (m, f). inl f) (λ h. inr (inr h)))

-- Finished goals

pub finished_settled : (q : Process) (D : ℕ → Type 0) → IsFinished q D → (x : ℕ) → x ∈ leaves q → IsSettled q D x
finished_settled Empty D f x m = absurd m
finished_settled (Task n) D f x m = inl (subst D (sym (only_one x n m)) f)
finished_settled (Sequence a b) D (f, h) x m = ⊎_elim
    (λ k. in_left a b D x (finished_settled a D f x k)) (λ k. in_right a b D x (finished_settled b D h x k)) (mem-append x (leaves a) (leaves b) m)
finished_settled (Parallel a b) D (f, h) x m = ⊎_elim
    (λ k. in_left a b D x (finished_settled a D f x k)) (λ k. in_right a b D x (finished_settled b D h x k)) (mem-append x (leaves a) (leaves b) m)
finished_settled (Choice a b) D f x m = inr (inl (m, f))
finished_settled (Isolated a) D f x m = finished_settled a D f x m

-- what is finished by some leaves is by more
pub finished_more : (q : Process) (D E : ℕ → Type 0) → ((x : ℕ) → x ∈ leaves q → D x → E x) → IsFinished q D → IsFinished q E
finished_more Empty D E to f = tt
finished_more (Task n) D E to f = to n (inl refl) f
finished_more (Sequence a b) D E to (f, g) =
    (finished_more a D E (λ x m. to x (mem_append_left x (leaves a) (leaves b) m)) f, finished_more b D E (λ x m. to x (mem_append_right x (leaves a) (leaves b) m)) g)
finished_more (Parallel a b) D E to (f, g) =
    (finished_more a D E (λ x m. to x (mem_append_left x (leaves a) (leaves b) m)) f, finished_more b D E (λ x m. to x (mem_append_right x (leaves a) (leaves b) m)) g)
finished_more (Choice a b) D E to f = ⊎_elim
    (λ h. inl (finished_more a D E (λ x m. to x (mem_append_left x (leaves a) (leaves b) m)) h))
    (λ h. inr (finished_more b D E (λ x m. to x (mem_append_right x (leaves a) (leaves b) m)) h)) f
finished_more (Isolated a) D E to f = finished_more a D E to f

-- each leaf of the goal is settled in a half
abbrev AllInHalves : Process → Process → (ℕ → Type 0) → Type 0
AllInHalves a b D = (x : ℕ) → x ∈ (leaves a ++ leaves b) → IsSettledInHalf a b D x

left_settled : (a b : Process) (D : ℕ → Type 0) → AreDistinct (leaves a ++ leaves b) → AllInHalves a b D → (x : ℕ) → x ∈ leaves a → IsSettled a D x
left_settled a b D d all x m = of_left a b D x d m (all x (mem_append_left x (leaves a) (leaves b) m))

right_settled : (a b : Process) (D : ℕ → Type 0) → AreDistinct (leaves a ++ leaves b) → AllInHalves a b D → (x : ℕ) → x ∈ leaves b → IsSettled b D x
right_settled a b D d all x m = of_right a b D x d m (all x (mem_append_right x (leaves a) (leaves b) m))

pub settled_finished : (q : Process) (D : ℕ → Type 0) → AreDistinct (leaves q) → ((x : ℕ) → x ∈ leaves q → IsSettled q D x) → IsFinished q D
settled_finished Empty D d all = tt
settled_finished (Task n) D d all = ⊎_elim (λ h. h) absurd (all n (inl refl))
settled_finished (Sequence a b) D d all = let (da, db, _) = distinct_parts (leaves a) (leaves b) d in
    (settled_finished a D da (left_settled a b D d all), settled_finished b D db (right_settled a b D d all))
settled_finished (Parallel a b) D d all = let (da, db, _) = distinct_parts (leaves a) (leaves b) d in
    (settled_finished a D da (left_settled a b D d all), settled_finished b D db (right_settled a b D d all))
settled_finished (Choice a b) D d all = let (da, db, _) = distinct_parts (leaves a) (leaves b) d in
    ⊎_elim (λ f. f) (λ each. inl (settled_finished a D da (left_settled a b D d each)))
    (one_or_all (IsSettledInHalf a b D) (leaves a ++ leaves b) (λ x m. of_choice a b D x (all x m)))
settled_finished (Isolated a) D d all = settled_finished a D d all

pub finished_by_settled : FinishedBySettled
finished_by_settled q done d = (finished_settled q (λ n. IsTrue (done n)), settled_finished q (λ n. IsTrue (done n)) d)

-- Whose turn it is

pub turn_settles : (q : Process) (D : ℕ → Type 0) (n : ℕ) → IsItsTurn q D n → (x : ℕ) → InSequence q x n → IsSettled q D x
turn_settles (Sequence a b) D n (first, f, h) x s = ⊎_elim
    (⊎_elim (λ (m, k). in_left a b D x (finished_settled a D (first k) x m)) (λ l. in_left a b D x (turn_settles a D n f x l)))
    (λ r. in_right a b D x (turn_settles b D n h x r)) s
turn_settles (Parallel a b) D n (f, h) x s = ⊎_elim
    (λ l. in_left a b D x (turn_settles a D n f x l)) (λ r. in_right a b D x (turn_settles b D n h x r)) s
turn_settles (Choice a b) D n (f, h) x s = ⊎_elim (λ d. inl d) (λ k. inr (inr k)) (⊎_elim
    (λ l. in_left a b D x (turn_settles a D n f x l)) (λ r. in_right a b D x (turn_settles b D n h x r)) s)
turn_settles (Isolated a) D n f x s = turn_settles a D n f x s
turn_settles leaf D n f x s = absurd s

-- what stands in sequence before the leaf is settled
abbrev IsSettledBefore : Process → (ℕ → Type 0) → ℕ → Type 0
IsSettledBefore q D n = (x : ℕ) → InSequence q x n → IsSettled q D x

pub settled_turn : (q : Process) (D : ℕ → Type 0) → IsFolded q → AreDistinct (leaves q) → (n : ℕ) → ¬ (IsClosedOff q D n) → IsSettledBefore q D n → IsItsTurn q D n
settled_turn (Sequence a b) D (f, g) d n allowed all = let (da, db, _) = distinct_parts (leaves a) (leaves b) d in (
  λ k. settled_finished a D da (λ x m. of_left a b D x d m (all x (inl (inl (m, k))))),
  settled_turn a D f da n (λ c. allowed (inl c)) (λ x s. of_left a b D x d (sequence_first a x n s) (all x (inl (inr s)))),
  settled_turn b D g db n (λ c. allowed (inr c)) (λ x s. of_right a b D x d (sequence_first b x n s) (all x (inr s))),
)
settled_turn (Parallel a b) D (f, g) d n allowed all = let (da, db, _) = distinct_parts (leaves a) (leaves b) d in (
  settled_turn a D f da n (λ c. allowed (inl c)) (λ x s. of_left a b D x d (sequence_first a x n s) (all x (inl s))),
  settled_turn b D g db n (λ c. allowed (inr c)) (λ x s. of_right a b D x d (sequence_first b x n s) (all x (inr s))),
)
settled_turn (Choice a b) D (never, f, g) d n allowed all = let (da, db, _) = distinct_parts (leaves a) (leaves b) d in
    (settled_turn a D f da n (λ c. allowed (inr (inl c))) in_a, settled_turn b D g db n (λ c. allowed (inr (inr c))) in_b)
  where
    -- a side with the leaf is not closed off, so the other is not begun, and thus not finished
    in_a : IsSettledBefore a D n
    in_a x s = ⊎_elim
        (⊎_elim
        (λ fin. finished_settled a D fin x (sequence_first a x n s))
        (λ fin. absurd (never (inr (nothing_finished b D (λ begun. allowed (inl (inl (sequence_second a x n s, begun)))) fin)))))
        (of_left a b D x d (sequence_first a x n s)) (of_choice a b D x (all x (inl s)))

    in_b : IsSettledBefore b D n
    in_b x s = ⊎_elim
        (⊎_elim
        (λ fin. absurd (never (inl (nothing_finished a D (λ begun. allowed (inl (inr (sequence_second b x n s, begun)))) fin))))
        (λ fin. finished_settled b D fin x (sequence_first b x n s)))
        (of_right a b D x d (sequence_first b x n s)) (of_choice a b D x (all x (inr s)))
settled_turn (Isolated a) D f d n allowed all = settled_turn a D (folded_where_free a f) d n allowed all
settled_turn leaf D f d n allowed all = tt

pub turns_by_settled : TurnsBySettled
turns_by_settled q done f d n m allowed =
    (λ turn. turn_settles q (λ x. IsTrue (done x)) n turn, λ all. settled_turn q (λ x. IsTrue (done x)) f d n allowed all)
