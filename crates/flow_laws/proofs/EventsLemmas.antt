-- Two leaves stand in one execution exactly where the least goal above them is no choice.
use Rattle.std.proofs.Common.{◌≡◌, ◌≢◌, ℕ, ◌⊎◌, List, [], ◌∷◌, ◌++◌, length, refl, sym, subst, inl, inr, ⊎_elim, Some, arith, append-nil}
use Rattle.flow_model.specs.Lists.{◌∈◌, Each, AreDistinct, joined, StandsBefore}
use Rattle.flow_model.specs.Process.{Process, Empty, Task, Sequence, Parallel, Choice, Isolated, leaves, IsNumbered}
use Rattle.flow_model.specs.Trace.{Blocks, as_one}
use Rattle.flow_model.specs.Facts.{event_at}
use Rattle.flow_model.specs.Schema.{Schema, HasUniqueEvents}
use Rattle.flow_laws.specs.Events.{AreTogether}
use Rattle.flow_model.proofs.Lists.{each-append, each_to, mem-append, not_before_itself}
use Rattle.flow_model.proofs.MadeLists.{distinct-filter_map, distinct-numbers_from, same_source}
use Rattle.flow_laws.proofs.Shuffles.{shuffle-append, shuffle-joined, of_shuffle, mem_shuffle_left, mem_shuffle_right}
use Rattle.flow_laws.proofs.GoalParts.{case_of, together_before}
use Rattle.flow_laws.proofs.TraceLeaves.{joined-as_one, beside, some_blocks, leaf_of_blocks, distinct_trace}

-- Executions that hold given leaves

-- the goal may be executed so that these leaves are done
abbrev MayDo : Process → List ℕ → Type 0
MayDo g done = (bs : List (List ℕ)) × Blocks g bs × Each (λ n. n ∈ joined bs) done

may_do_nothing : (g : Process) → MayDo g []
may_do_nothing g = let (bs, h) = some_blocks g in (bs, h, tt)

-- those of two halves are done one half after the other
do_both : (a b : Process) (first second : List ℕ) → MayDo a first → MayDo b second →
    MayDo (Sequence a b) (first ++ second) × MayDo (Parallel a b) (first ++ second)
do_both a b first second (x, hx, mx) (y, hy, my) =
    let whole = shuffle-joined (shuffle-append x y) in
    let all = each-append (λ n. n ∈ joined (x ++ y)) first second
    (each_to _ _ first (λ n. mem_shuffle_left whole n) mx) (each_to _ _ second (λ n. mem_shuffle_right whole n) my) in
    ((x ++ y, (x, y, hx, hy, refl), all), (x ++ y, (x, y, hx, hy, shuffle-append x y), all))

do_isolated : (a : Process) (done : List ℕ) → MayDo a done → MayDo (Isolated a) done
do_isolated a done (x, h, m) = (as_one x, (x, h, refl), rw (joined-as_one x) m)

-- those of one half, the other being done with none of them
one_in_halves : {P Q : Type 0} (a b : Process) (done : List ℕ) → (P → MayDo a done) → (Q → MayDo b done) → P ⊎ Q →
    MayDo (Sequence a b) done × MayDo (Parallel a b) done
one_in_halves a b done f g = ⊎_elim
    (λ p. subst (λ l. MayDo (Sequence a b) l × MayDo (Parallel a b) l) (append-nil done) (do_both a b done [] (f p) (may_do_nothing b)))
    (λ q. do_both a b [] done (may_do_nothing a) (g q))

in_choice : {P Q : Type 0} (a b : Process) (done : List ℕ) → (P → MayDo a done) → (Q → MayDo b done) → P ⊎ Q → MayDo (Choice a b) done
in_choice a b done f g = ⊎_elim (λ p. let (x, h, k) = f p in (x, inl h, k)) (λ q. let (x, h, k) = g q in (x, inr h, k))

may_do_one : (g : Process) (n : ℕ) → n ∈ leaves g → MayDo g (n ∷ [])
may_do_one Empty n m = absurd m
may_do_one (Task k) n m = ((k ∷ []) ∷ [], refl, (m, tt))
may_do_one (Sequence a b) n m = (one_in_halves a b (n ∷ []) (may_do_one a n) (may_do_one b n) (mem-append n (leaves a) (leaves b) m)).0
may_do_one (Parallel a b) n m = (one_in_halves a b (n ∷ []) (may_do_one a n) (may_do_one b n) (mem-append n (leaves a) (leaves b) m)).1
may_do_one (Choice a b) n m = in_choice a b (n ∷ []) (may_do_one a n) (may_do_one b n) (mem-append n (leaves a) (leaves b) m)
may_do_one (Isolated a) n m = do_isolated a (n ∷ []) (may_do_one a n m)

two_in_halves : (a b : Process) (m n : ℕ) → (AreTogether a m n → MayDo a (m ∷ n ∷ [])) → (AreTogether b m n → MayDo b (m ∷ n ∷ [])) →
    AreTogether (Parallel a b) m n → MayDo (Sequence a b) (m ∷ n ∷ []) × MayDo (Parallel a b) (m ∷ n ∷ [])
two_in_halves a b m n f g (inl (inl h)) = do_both a b (m ∷ []) (n ∷ []) (may_do_one a m h.0) (may_do_one b n h.1)
two_in_halves a b m n f g (inl (inr h)) = one_in_halves a b (m ∷ n ∷ []) f g (inl h)
two_in_halves a b m n f g (inr h) = one_in_halves a b (m ∷ n ∷ []) f g (inr h)

may_do_two : (g : Process) (m n : ℕ) → AreTogether g m n → MayDo g (m ∷ n ∷ [])
may_do_two (Sequence a b) m n h = (two_in_halves a b m n (may_do_two a m n) (may_do_two b m n) h).0
may_do_two (Parallel a b) m n h = (two_in_halves a b m n (may_do_two a m n) (may_do_two b m n) h).1
may_do_two (Choice a b) m n h = in_choice a b (m ∷ n ∷ []) (may_do_two a m n) (may_do_two b m n) h
may_do_two (Isolated a) m n h = do_isolated a (m ∷ n ∷ []) (may_do_two a m n h)
may_do_two leaf m n h = absurd h

-- the goal may be executed so that both leaves are done
pub blocks_with_both : (g : Process) (m n : ℕ) → AreTogether g m n →
    (bs : List (List ℕ)) × Blocks g bs × (m ∈ joined bs) × (n ∈ joined bs)
blocks_with_both g m n h = let (bs, b, all) = may_do_two g m n h in (bs, b, all.0, all.1.0)

-- Leaves of one execution

-- of two leaves of an execution the one is together with the other, on its left or its right
abbrev AreAllTogether : Process → Type 0
AreAllTogether g = (bs : List (List ℕ)) → Blocks g bs → (m n : ℕ) → m ∈ joined bs → n ∈ joined bs → m ≢ n → AreTogether g m n ⊎ AreTogether g n m

together_in_halves : (a b : Process) → AreAllTogether a → AreAllTogether b → AreAllTogether (Parallel a b)
together_in_halves a b in_a in_b bs (x, y, hx, hy, s) m n i j d =
    let fact = of_shuffle (shuffle-joined s) m i in let other_fact = of_shuffle (shuffle-joined s) n j in
    let third_fact = leaf_of_blocks b y hy m in let fourth_fact = leaf_of_blocks b y hy n in
    grind (arith, in_a x hx m n, in_b y hy m n, d, leaf_of_blocks a x hx m, leaf_of_blocks a x hx n)

pub are_together : (g : Process) (bs : List (List ℕ)) → Blocks g bs → (m n : ℕ) → m ∈ joined bs → n ∈ joined bs → m ≢ n →
    AreTogether g m n ⊎ AreTogether g n m
are_together (Sequence a b) bs h m n i j d = together_in_halves a b (are_together a) (are_together b) bs (beside a b bs h) m n i j d
are_together (Parallel a b) bs h m n i j d = together_in_halves a b (are_together a) (are_together b) bs h m n i j d
are_together (Choice a b) bs h m n i j d = grind (arith, h, i, j, d, are_together a bs, are_together b bs)
are_together (Isolated a) bs (x, h, e) m n i j d = grind (arith, e, joined-as_one x, i, j, are_together a x h m n, d)
are_together leaf bs h m n i j d = grind (arith, h, i, j, d)

-- The law

pub events_apart : (w : Schema) → IsNumbered w.goal (length w.labels) → HasUniqueEvents w →
    (x y e : ℕ) → AreTogether w.goal x y → event_at w.labels x ≡ Some e → event_at w.labels y ≢ Some e
events_apart w numbered unique x y e h i j =
    let (bs, b, mx, my) = blocks_with_both w.goal x y h in
    let same = same_source (event_at w.labels) (joined bs) (unique (joined bs) (bs, b, refl)) x y e mx my i j in
    not_before_itself y (leaves w.goal) (subst AreDistinct (sym numbered) (distinct-numbers_from 0 (length w.labels)))
    (subst (λ z. StandsBefore z y (leaves w.goal)) same (together_before (case_of w.goal) x y h))

pub unique_events : (w : Schema) → IsNumbered w.goal (length w.labels) →
    ((x y e : ℕ) → AreTogether w.goal x y → event_at w.labels x ≡ Some e → event_at w.labels y ≢ Some e) → HasUniqueEvents w
unique_events w numbered apart t (bs, h, k) =
    let d : AreDistinct (leaves w.goal) = subst AreDistinct (sym numbered) (distinct-numbers_from 0 (length w.labels)) in
    distinct-filter_map (event_at w.labels) t (distinct_trace w.goal d t (bs, h, k))
    (λ x y e mx my differ i j.
    grind (arith, i, j, apart x y e, apart y x e, are_together w.goal bs h x y (subst (λ v. x ∈ v) k mx) (subst (λ v. y ∈ v) k my) differ))
