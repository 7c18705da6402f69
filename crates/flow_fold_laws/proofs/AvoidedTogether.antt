-- What a goal can go on without when several more of its leaves are begun.
use Rattle.std.proofs.Common.{◌≡◌, ℕ, IsTrue, List, [], ◌∷◌, refl, sym, subst, inl, inr, ⊎_elim}
use Rattle.flow_model.specs.Lists.{◌∈◌}
use Rattle.flow_model.specs.Process.{Process, Empty, Task, Sequence, Parallel, Choice, Isolated, leaves}
use Rattle.flow_model.specs.Ready.{DoneOr}
use Rattle.flow_model.specs.Decided.{Decided, decide_in, decide_some}
use Rattle.flow_model.specs.FoldedReady.{IsClosedOff}
use Rattle.flow_model.specs.FoldedRun.{CanAvoid}
use Rattle.flow_model.proofs.Lists.{only_one, mem_append_left, mem_append_right, mem-append}
use Rattle.flow_fold_laws.specs.FoldedAvoiding.{AllMayBegin}
use Rattle.flow_fold_laws.proofs.UnfoldedReady.{closed_leaf}

-- of the leaves of the goal, the one set holds no others
abbrev pub HasFewer : Process → (ℕ → Type 0) → (ℕ → Type 0) → Type 0
HasFewer q E D = (n : ℕ) → n ∈ leaves q → E n → D n

fewer_left : (a b : Process) (E D : ℕ → Type 0) → HasFewer (Parallel a b) E D → HasFewer a E D
fewer_left a b E D less n m = less n (mem_append_left n (leaves a) (leaves b) m)

fewer_right : (a b : Process) (E D : ℕ → Type 0) → HasFewer (Parallel a b) E D → HasFewer b E D
fewer_right a b E D less n m = less n (mem_append_right n (leaves a) (leaves b) m)

-- it does so all the more where fewer leaves are begun and fewer are banned
pub avoid_less : (q : Process) (D E B C : ℕ → Type 0) → HasFewer q E D → HasFewer q C B → CanAvoid q D B → CanAvoid q E C
avoid_less Empty D E B C less few h = tt
avoid_less (Task n) D E B C less few h = λ c. h (few n (inl refl) c)
avoid_less (Sequence a b) D E B C less few (h, k) = (
  avoid_less a D E B C (fewer_left a b E D less) (fewer_left a b C B few) h,
  avoid_less b D E B C (fewer_right a b E D less) (fewer_right a b C B few) k,
)
avoid_less (Parallel a b) D E B C less few (h, k) = (
  avoid_less a D E B C (fewer_left a b E D less) (fewer_left a b C B few) h,
  avoid_less b D E B C (fewer_right a b E D less) (fewer_right a b C B few) k,
)
avoid_less (Choice a b) D E B C less few h =
    let left = fewer_left a b E D less in
    let right = fewer_right a b E D less in
    ⊎_elim
    (λ (k, none). inl (avoid_less a D E B C left (fewer_left a b C B few) k, λ (n, m, e). none (n, m, right n m e)))
    (λ (k, none). inr (avoid_less b D E B C right (fewer_right a b C B few) k, λ (n, m, e). none (n, m, left n m e))) h
avoid_less (Isolated a) D E B C less few h = avoid_less a D E B C less few h

-- fewer are begun
pub avoid_begun : (q : Process) (D E B : ℕ → Type 0) → HasFewer q E D → CanAvoid q D B → CanAvoid q E B
avoid_begun q D E B less = avoid_less q D E B B less (λ n m b. b)

-- of a leaf that is begun, no choice has begun the other side
not_closed : (q : Process) (D B : ℕ → Type 0) (x : ℕ) → CanAvoid q D B → D x → ¬ (IsClosedOff q D x)
not_closed Empty D B x h d c = c
not_closed (Task n) D B x h d c = c
not_closed (Sequence a b) D B x h d c = ⊎_elim (not_closed a D B x h.0 d) (not_closed b D B x h.1 d) c
not_closed (Parallel a b) D B x h d c = ⊎_elim (not_closed a D B x h.0 d) (not_closed b D B x h.1 d) c
not_closed (Choice a b) D B x h d c = ⊎_elim
    (⊎_elim
    (λ l. ⊎_elim (λ way. way.1 l.1) (λ way. way.1 (x, l.0, d)) h)
    (λ r. ⊎_elim (λ way. way.1 (x, r.0, d)) (λ way. way.1 r.1) h))
    (⊎_elim
    (λ l. ⊎_elim (λ way. not_closed a D B x way.0 d l) (λ way. way.1 (x, closed_leaf a D x l, d)) h)
    (λ r. ⊎_elim (λ way. way.1 (x, closed_leaf b D x r, d)) (λ way. not_closed b D B x way.0 d r) h)) c
not_closed (Isolated a) D B x h d c = not_closed a D B x h d c

-- each of the leaves that the goal has may be begun alone, and none closes off another
record MayBegin (q : Process) (D B : ℕ → Type 0) (list : List ℕ) : Type 0 where
  each : (x : ℕ) → x ∈ list → x ∈ leaves q → CanAvoid q (DoneOr D (x ∷ [])) B
  apart : (x y : ℕ) → x ∈ list → y ∈ list → ¬ (IsClosedOff q (λ n. n ≡ x) y)

in_side : (list : List ℕ) (g : Process) → Decided ((x : ℕ) × (x ∈ list) × (x ∈ leaves g))
in_side list g = decide_some (λ x. x ∈ leaves g) (λ x. decide_in x (leaves g)) list

choice_avoids : (a b : Process) (D B : ℕ → Type 0) (list : List ℕ) → CanAvoid (Choice a b) D B → MayBegin (Choice a b) D B list →
    (CanAvoid a D B → MayBegin a D B list → CanAvoid a (DoneOr D list) B) → (CanAvoid b D B → MayBegin b D B list → CanAvoid b (DoneOr D list) B) →
    CanAvoid (Choice a b) (DoneOr D list) B
choice_avoids a b D B list h may go_left go_right = ⊎_elim in_left (λ left. ⊎_elim in_right (λ right. in_none left right) (in_side list b)) (in_side list a)
  where
    in_left : ((x : ℕ) × (x ∈ list) × (x ∈ leaves a)) → CanAvoid (Choice a b) (DoneOr D list) B
    in_left (x, m, l) = ⊎_elim
        (λ way. inl (
          go_left (avoid_begun a (DoneOr D (x ∷ [])) D B (λ n k d. inl d) way.0) (record {
            each = λ y k j. ⊎_elim (λ other. other.0) (λ other. absurd (other.1 (y, j, inr (inl refl)))) (may.each y k (mem_append_left y (leaves a) (leaves b) j));
            apart = λ y z k j c. may.apart y z k j (inr (inl c));
          }),
          λ begun. ⊎_elim (λ d. way.1 (begun.0, begun.1, inl d)) (λ k. may.apart x begun.0 m k (inl (inr (begun.1, (x, l, refl))))) begun.2,
        ))
        (λ way. absurd (way.1 (x, l, inr (inl refl)))) (may.each x m (mem_append_left x (leaves a) (leaves b) l))

    in_right : ((x : ℕ) × (x ∈ list) × (x ∈ leaves b)) → CanAvoid (Choice a b) (DoneOr D list) B
    in_right (x, m, l) = ⊎_elim
        (λ way. absurd (way.1 (x, l, inr (inl refl))))
        (λ way. inr (
          go_right (avoid_begun b (DoneOr D (x ∷ [])) D B (λ n k d. inl d) way.0) (record {
            each = λ y k j. ⊎_elim (λ other. absurd (other.1 (y, j, inr (inl refl)))) (λ other. other.0) (may.each y k (mem_append_right y (leaves a) (leaves b) j));
            apart = λ y z k j c. may.apart y z k j (inr (inr c));
          }),
          λ begun. ⊎_elim (λ d. way.1 (begun.0, begun.1, inl d)) (λ k. may.apart x begun.0 m k (inl (inl (begun.1, (x, l, refl))))) begun.2,
        )) (may.each x m (mem_append_right x (leaves a) (leaves b) l))

    in_none : ¬ ((x : ℕ) × (x ∈ list) × (x ∈ leaves a)) → ¬ ((x : ℕ) × (x ∈ list) × (x ∈ leaves b)) → CanAvoid (Choice a b) (DoneOr D list) B
    in_none left right = avoid_begun (Choice a b) D (DoneOr D list) B
        (λ n m e. ⊎_elim (λ d. d) (λ k. absurd (⊎_elim (λ l. left (n, k, l)) (λ r. right (n, k, r)) (mem-append n (leaves a) (leaves b) m))) e) h

-- then all of them may be begun
all_avoid : (q : Process) (D B : ℕ → Type 0) (list : List ℕ) → CanAvoid q D B → MayBegin q D B list → CanAvoid q (DoneOr D list) B
all_avoid Empty D B list h may = tt
all_avoid (Task n) D B list h may = h
all_avoid (Sequence a b) D B list h may = (
  all_avoid a D B list h.0 (record {
    each = λ x m l. (may.each x m (mem_append_left x (leaves a) (leaves b) l)).0;
    apart = λ x y m k c. may.apart x y m k (inl c);
  }),
  all_avoid b D B list h.1 (record {
    each = λ x m l. (may.each x m (mem_append_right x (leaves a) (leaves b) l)).1;
    apart = λ x y m k c. may.apart x y m k (inr c);
  }),
)
all_avoid (Parallel a b) D B list h may = (
  all_avoid a D B list h.0 (record {
    each = λ x m l. (may.each x m (mem_append_left x (leaves a) (leaves b) l)).0;
    apart = λ x y m k c. may.apart x y m k (inl c);
  }),
  all_avoid b D B list h.1 (record {
    each = λ x m l. (may.each x m (mem_append_right x (leaves a) (leaves b) l)).1;
    apart = λ x y m k c. may.apart x y m k (inr c);
  }),
)
all_avoid (Choice a b) D B list h may = choice_avoids a b D B list h may (all_avoid a D B list) (all_avoid b D B list)
all_avoid (Isolated a) D B list h may = all_avoid a D B list h (record { each = may.each; apart = may.apart })

-- what is closed off by some leaves is by more
pub closed_more : (q : Process) (D E : ℕ → Type 0) (x : ℕ) → ((n : ℕ) → D n → E n) → IsClosedOff q D x → IsClosedOff q E x
closed_more (Sequence a b) D E x to = ⊎_elim (λ c. inl (closed_more a D E x to c)) (λ c. inr (closed_more b D E x to c))
closed_more (Parallel a b) D E x to = ⊎_elim (λ c. inl (closed_more a D E x to c)) (λ c. inr (closed_more b D E x to c))
closed_more (Choice a b) D E x to = ⊎_elim
    (⊎_elim (λ (m, (n, k, d)). inl (inl (m, (n, k, to n d)))) (λ (m, (n, k, d)). inl (inr (m, (n, k, to n d)))))
    (⊎_elim (λ c. inr (inl (closed_more a D E x to c))) (λ c. inr (inr (closed_more b D E x to c))))
closed_more (Isolated a) D E x to = closed_more a D E x to
closed_more leaf D E x to = λ c. c

pub all_may_begin : AllMayBegin
all_may_begin q begun banned list =
    let D : ℕ → Type 0 = λ n. IsTrue (begun n) in
    let B : ℕ → Type 0 = λ n. IsTrue (banned n) in (
      λ h. record {
        now = avoid_begun q (DoneOr D list) D B (λ n m. inl) h;
        each = λ x m. avoid_begun q (DoneOr D list) (DoneOr D (x ∷ [])) B (λ n k. ⊎_elim inl (λ j. inr (subst (λ y. y ∈ list) (sym (only_one n x j)) m))) h;
        apart = λ x y m k c. not_closed q (DoneOr D list) B y h (inr k)
            (closed_more q (λ n. n ≡ x) (DoneOr D list) y (λ n e. inr (subst (λ z. z ∈ list) (sym e) m)) c);
      },
      λ may. all_avoid q D B list may.now (record { each = λ x m l. may.each x m; apart = may.apart }),
    )
