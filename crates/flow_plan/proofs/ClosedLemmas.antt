-- Leaves that close off one another, and leaves that one more settles.
use Rattle.std.proofs.Common.{◌≡◌, ℕ, List, [], ◌∷◌, ◌++◌, ◌⊎◌, inl, inr, ⊎_elim, refl, sym, subst}
use Rattle.flow_model.specs.Lists.{◌∈◌, AreDistinct}
use Rattle.flow_model.specs.Process.{Process, Sequence, Parallel, Choice, Isolated, leaves}
use Rattle.flow_model.specs.Ready.{DoneOr}
use Rattle.flow_model.specs.Decided.{decide_in}
use Rattle.flow_model.specs.Folding.{choices_of}
use Rattle.flow_model.specs.FoldedReady.{IsClosedOff}
use Rattle.flow_model.proofs.Lists.{distinct_parts, mem_append_left, mem_append_right, only_one}
use Rattle.flow_fold_laws.specs.FoldedRows.{IsInFinishedChoice, IsSettled}
use Rattle.flow_fold_laws.proofs.AvoidedTogether.{closed_more}
use Rattle.flow_fold_laws.proofs.ClosedChoices.{IsClosedIn, closed_by_choices}
use Rattle.flow_fold_laws.proofs.FoldedSettled.{finished_more}
use Rattle.flow_plan.specs.Orders.{IsInChoiceWith}

-- ---- closed off by one leaf

in_by_one : (choices : List (Process × Process)) (D : ℕ → Type 0) (n : ℕ) → IsClosedIn choices D n → (x : ℕ) × D x × IsClosedIn choices (λ z. z ≡ x) n
in_by_one [] D n h = absurd h
in_by_one (choice ∷ more) D n h = ⊎_elim
    (⊎_elim (λ (m, (x, k, d)). (x, d, inl (inl (m, (x, k, refl))))) (λ (m, (x, k, d)). (x, d, inl (inr (m, (x, k, refl))))))
    (λ k. let (x, d, c) = in_by_one more D n k in (x, d, inr c)) h

in_turned : (choices : List (Process × Process)) (x y : ℕ) → IsClosedIn choices (λ z. z ≡ x) y → IsClosedIn choices (λ z. z ≡ y) x
in_turned [] x y h = h
in_turned (choice ∷ more) x y h = ⊎_elim
    (⊎_elim
    (λ (m, (z, k, e)). inl (inr (subst (λ (v : ℕ). v ∈ leaves choice.1) e k, (y, m, refl))))
    (λ (m, (z, k, e)). inl (inl (subst (λ (v : ℕ). v ∈ leaves choice.0) e k, (y, m, refl)))))
    (λ k. inr (in_turned more x y k)) h

-- some one of the done leaves does it
pub closed_by_one : (q : Process) (D : ℕ → Type 0) (n : ℕ) → IsClosedOff q D n → (x : ℕ) × D x × IsClosedOff q (λ z. z ≡ x) n
closed_by_one q D n h =
    let (x, d, c) = in_by_one (choices_of q) D n ((closed_by_choices q D n).0 h) in (x, d, (closed_by_choices q (λ z. z ≡ x) n).1 c)

-- and of two, each does the other
pub closed_turned : (q : Process) (x y : ℕ) → IsClosedOff q (λ z. z ≡ x) y → IsClosedOff q (λ z. z ≡ y) x
closed_turned q x y h = (closed_by_choices q (λ z. z ≡ y) x).1 (in_turned (choices_of q) x y ((closed_by_choices q (λ z. z ≡ x) y).0 h))

pub not_by_itself : (q : Process) (n : ℕ) → AreDistinct (leaves q) → ¬ (IsClosedOff q (λ z. z ≡ n) n)
not_by_itself (Sequence a b) n d = let (da, db, _) = distinct_parts (leaves a) (leaves b) d in ⊎_elim (not_by_itself a n da) (not_by_itself b n db)
not_by_itself (Parallel a b) n d = let (da, db, _) = distinct_parts (leaves a) (leaves b) d in ⊎_elim (not_by_itself a n da) (not_by_itself b n db)
not_by_itself (Choice a b) n d = let (da, db, off) = distinct_parts (leaves a) (leaves b) d in ⊎_elim
    (⊎_elim
    (λ (m, (z, k, e)). off n m (subst (λ (v : ℕ). v ∈ leaves b) e k))
    (λ (m, (z, k, e)). off n (subst (λ (v : ℕ). v ∈ leaves a) e k) m))
    (⊎_elim (not_by_itself a n da) (not_by_itself b n db))
not_by_itself (Isolated a) n d = not_by_itself a n d
not_by_itself leaf n d = λ h. h

-- ---- leaves of a list

-- no leaf of the list closes off another
abbrev pub AreAllApart : Process → List ℕ → Type 0
AreAllApart q list = (x y : ℕ) → x ∈ list → y ∈ list → ¬ (IsClosedOff q (λ z. z ≡ x) y)

pub apart_from_each : (q : Process) (list : List ℕ) → ((y : ℕ) → y ∈ list → ¬ (IsClosedOff q (λ z. z ∈ list) y)) → AreAllApart q list
apart_from_each q list each x y x_in y_in h = each y y_in (closed_more q (λ z. z ≡ x) (λ z. z ∈ list) y (λ z e. subst (λ (v : ℕ). v ∈ list) (sym e) x_in) h)

pub none_closed : (q : Process) (list : List ℕ) → AreAllApart q list → (y : ℕ) → y ∈ list → ¬ (IsClosedOff q (λ z. z ∈ list) y)
none_closed q list apart y y_in h = let (x, x_in, c) = closed_by_one q (λ z. z ∈ list) y h in apart x y x_in y_in c

-- one leaf more
pub apart_with : (q : Process) (n : ℕ) (list : List ℕ) → AreDistinct (leaves q) → AreAllApart q list → ¬ (IsClosedOff q (λ z. z ∈ list) n) → AreAllApart q (n ∷ list)
apart_with q n list distinct apart other = by
  where
    closes : (x : ℕ) → x ∈ list → ¬ (IsClosedOff q (λ z. z ≡ x) n)
    closes x x_in h = other (closed_more q (λ z. z ≡ x) (λ z. z ∈ list) n (λ z e. subst (λ (v : ℕ). v ∈ list) (sym e) x_in) h)

    to_first : (x : ℕ) → x ∈ (n ∷ list) → ¬ (IsClosedOff q (λ z. z ≡ x) n)
    to_first x (inl same) h = not_by_itself q n distinct (subst (λ (v : ℕ). IsClosedOff q (λ z. z ≡ v) n) same h)
    to_first x (inr x_in) h = closes x x_in h

    by : AreAllApart q (n ∷ list)
    by x y x_in (inl same) h = to_first x x_in (subst (λ (v : ℕ). IsClosedOff q (λ z. z ≡ x) v) same h)
    by x y (inl same) (inr y_in) h = closes y y_in (closed_turned q n y (subst (λ (v : ℕ). IsClosedOff q (λ z. z ≡ v) y) same h))
    by x y (inr x_in) (inr y_in) h = apart x y x_in y_in h

pub apart_front : (q : Process) (n : ℕ) (list : List ℕ) → AreAllApart q (n ∷ list) → ¬ (IsClosedOff q (λ z. z ∈ list) n)
apart_front q n list apart h = let (x, x_in, c) = closed_by_one q (λ z. z ∈ list) n h in apart x n (inr x_in) (inl refl) c

pub apart_rest : (q : Process) (n : ℕ) (list : List ℕ) → AreAllApart q (n ∷ list) → AreAllApart q list
apart_rest q n list apart x y x_in y_in = apart x y (inr x_in) (inr y_in)

-- ---- settled by one leaf more

in_finished_more : (q : Process) (D E : ℕ → Type 0) (n : ℕ) → ((x : ℕ) → D x → E x) → IsInFinishedChoice q D n → IsInFinishedChoice q E n
in_finished_more (Sequence a b) D E n to = ⊎_elim (λ h. inl (in_finished_more a D E n to h)) (λ h. inr (in_finished_more b D E n to h))
in_finished_more (Parallel a b) D E n to = ⊎_elim (λ h. inl (in_finished_more a D E n to h)) (λ h. inr (in_finished_more b D E n to h))
in_finished_more (Choice a b) D E n to = ⊎_elim
    (λ (m, f). inl (m, finished_more (Choice a b) D E (λ x k. to x) f))
    (⊎_elim (λ h. inr (inl (in_finished_more a D E n to h))) (λ h. inr (inr (in_finished_more b D E n to h))))
in_finished_more (Isolated a) D E n to = in_finished_more a D E n to
in_finished_more leaf D E n to = λ h. h

pub settled_more : (q : Process) (D E : ℕ → Type 0) (n : ℕ) → ((x : ℕ) → D x → E x) → IsSettled q D n → IsSettled q E n
settled_more q D E n to = ⊎_elim (λ d. inl (to n d)) (λ h. inr (in_finished_more q D E n to h))

-- the leaf was in a finished choice before, or some choice has it and the one that is new
abbrev IsFinishedBy : Process → (ℕ → Type 0) → ℕ → ℕ → Type 0
IsFinishedBy q D leaf first = IsInFinishedChoice q D leaf ⊎ IsInChoiceWith q leaf first

finished_in : (half q : Process) (D : ℕ → Type 0) (leaf first : ℕ) → (IsInFinishedChoice half D leaf → IsInFinishedChoice q D leaf) →
    ((choice : Process × Process) → choice ∈ choices_of half → choice ∈ choices_of q) → IsFinishedBy half D leaf first → IsFinishedBy q D leaf first
finished_in half q D leaf first to up = ⊎_elim (λ h. inl (to h)) (λ (choice, m, k, l). inr (choice, up choice m, k, l))

finished_by : (q : Process) (D : ℕ → Type 0) (leaf first : ℕ) → IsInFinishedChoice q (DoneOr D (first ∷ [])) leaf → IsFinishedBy q D leaf first
finished_by (Sequence a b) D leaf first = ⊎_elim
    (λ h. finished_in a (Sequence a b) D leaf first inl (λ c. mem_append_left c (choices_of a) (choices_of b)) (finished_by a D leaf first h))
    (λ h. finished_in b (Sequence a b) D leaf first inr (λ c. mem_append_right c (choices_of a) (choices_of b)) (finished_by b D leaf first h))
finished_by (Parallel a b) D leaf first = ⊎_elim
    (λ h. finished_in a (Parallel a b) D leaf first inl (λ c. mem_append_left c (choices_of a) (choices_of b)) (finished_by a D leaf first h))
    (λ h. finished_in b (Parallel a b) D leaf first inr (λ c. mem_append_right c (choices_of a) (choices_of b)) (finished_by b D leaf first h))
finished_by (Choice a b) D leaf first =
    let all : List (Process × Process) = choices_of a ++ choices_of b in
    ⊎_elim
    (λ (m, f). ⊎_elim
    (λ here. inr ((a, b), mem_append_right (a, b) all ((a, b) ∷ []) (inl refl), m, here))
    (λ out. inl (inl (
      m,
      finished_more (Choice a b) (DoneOr D (first ∷ [])) D
          (λ x k. ⊎_elim (λ d. d) (λ e. absurd (out (subst (λ (v : ℕ). v ∈ (leaves a ++ leaves b)) (only_one x first e) k)))) f,
    )))
    (decide_in first (leaves a ++ leaves b)))
    (⊎_elim
    (λ h. finished_in a (Choice a b) D leaf first (λ k. inr (inl k))
    (λ c m. mem_append_left c all ((a, b) ∷ []) (mem_append_left c (choices_of a) (choices_of b) m)) (finished_by a D leaf first h))
    (λ h. finished_in b (Choice a b) D leaf first (λ k. inr (inr k))
    (λ c m. mem_append_left c all ((a, b) ∷ []) (mem_append_right c (choices_of a) (choices_of b) m)) (finished_by b D leaf first h)))
finished_by (Isolated a) D leaf first = finished_by a D leaf first
finished_by other D leaf first = λ h. inl h

-- a leaf that is settled by one leaf more is that one, or some choice has both
pub settled_with : (q : Process) (D : ℕ → Type 0) (leaf first : ℕ) → ¬ (IsSettled q D leaf) → IsSettled q (DoneOr D (first ∷ [])) leaf →
    (first ≡ leaf) ⊎ IsInChoiceWith q leaf first
settled_with q D leaf first before = ⊎_elim
    (⊎_elim (λ d. absurd (before (inl d))) (λ e. inl (sym (only_one leaf first e))))
    (λ h. ⊎_elim (λ k. absurd (before (inr k))) inr (finished_by q D leaf first h))
