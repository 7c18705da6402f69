-- Ready runs and the executions of an option, leaf by leaf.
use Rattle.std.proofs.Common.{◌≡◌, ◌≢◌, ℕ, List, [], ◌∷◌, ◌++◌, ◌↔◌, refl, sym, ap, ◌∙◌, subst, inl, inr, ⊎_elim, append_assoc, append-nil, arith}
use Rattle.flow_model.specs.Lists.{◌∈◌, AreDistinct, AreInOrder, StandsBefore, Begins}
use Rattle.flow_model.specs.Process.{Process, leaves}
use Rattle.flow_model.specs.Trace.{Trace}
use Rattle.flow_model.specs.Ready.{InSequence, DirectlyBefore, IsReady, DoneOr, IsReadyRunAfter, IsReadyRun, IsCompleteRun}
use Rattle.flow_laws.specs.WellFormed.{IsOrdered}
use Rattle.flow_laws.specs.ReadyRuns.{CompleteRunsAreTraces, FrontsAreReady}
use Rattle.flow_model.proofs.Lists.{mem_here, each_member, split_at, not_elsewhere, before_members, before_across, before_right, in_front, not_both_ways, mem-append, each_from_members}
use Rattle.flow_laws.proofs.GoalParts.{sequence_first, sequence_second, sequence_other, part_within}
use Rattle.flow_laws.proofs.RunsByStep
use Rattle.flow_laws.proofs.RunsByStep.{IsByStep, run_as, as_well, run-append, run_of}
use Rattle.flow_laws.proofs.Orderings.{IsOrdering, ordering_of_trace, trace_of_ordering}

-- what is directly before what

pub direct_first : (q : Process) (pairs : List (ℕ × ℕ)) → IsOrdered q pairs → (x y : ℕ) → DirectlyBefore q pairs x y → x ∈ leaves q
direct_first q pairs w x y (inl h) = sequence_first q x y h
direct_first q pairs w x y (inr m) = (each_member (λ pair. (pair.0 ∈ leaves q) × (pair.1 ∈ leaves q)) pairs w.of_leaves (x, y) m).0

pub direct_second : (q : Process) (pairs : List (ℕ × ℕ)) → IsOrdered q pairs → (x y : ℕ) → DirectlyBefore q pairs x y → y ∈ leaves q
direct_second q pairs w x y (inl h) = sequence_second q x y h
direct_second q pairs w x y (inr m) = (each_member (λ pair. (pair.0 ∈ leaves q) × (pair.1 ∈ leaves q)) pairs w.of_leaves (x, y) m).1

-- no leaf is directly before itself
pub direct_other : (q : Process) (pairs : List (ℕ × ℕ)) → IsOrdered q pairs → (x y : ℕ) → DirectlyBefore q pairs x y → x ≢ y
direct_other q pairs w x y (inl h) e = sequence_other q y w.distinct (subst (λ z. InSequence q z y) e h)
direct_other q pairs w x y (inr m) e = each_member (λ pair. pair.0 ≢ pair.1) pairs w.different (x, y) m e

-- the executions of an option

-- an ordering of the goal in which each pair stands in order
pub record IsArrangement (q : Process) (pairs : List (ℕ × ℕ)) (t : List ℕ) : Type 0 where
  pub ordering : IsOrdering q t
  pub pairs_stand : AreInOrder pairs t

pub arrangement_of : (q : Process) (pairs : List (ℕ × ℕ)) (t : List ℕ) → IsOrdered q pairs → Trace q t → AreInOrder pairs t → IsArrangement q pairs t
arrangement_of q pairs t w h k = record { ordering = ordering_of_trace t q w.choice_free w.distinct h; pairs_stand = k }

pub direct_stands : (q : Process) (pairs : List (ℕ × ℕ)) (t : List ℕ) → IsArrangement q pairs t → (x y : ℕ) → DirectlyBefore q pairs x y → StandsBefore x y t
direct_stands q pairs t a x y (inl h) = a.ordering.before x y h
direct_stands q pairs t a x y (inr m) = each_member (λ pair. StandsBefore pair.0 pair.1 t) pairs a.pairs_stand (x, y) m

-- each leaf of an execution may come next after those before it
pub ready_in_arrangement : (q : Process) (pairs : List (ℕ × ℕ)) (front : List ℕ) (n : ℕ) (back : List ℕ) → IsOrdered q pairs →
    IsArrangement q pairs (front ++ n ∷ back) → IsReady q pairs (λ x. x ∈ front) n
ready_in_arrangement q pairs front n back w a = record {
  leaf = o.leaf n (mem_here n front back);
  not_done = (not_elsewhere front back n o.distinct).0;
  before = λ x b. in_front x n front back o.distinct (direct_stands q pairs (front ++ n ∷ back) a x n b);
  outside = λ part m l x y k h p.
      let fact = λ (i : y ∈ back). o.together part m x n y k l p (before_across x n front (n ∷ back) h (inl refl)) (before_right n y front (n ∷ back) (inl (refl, i))) in
      grind (arith, l, p, mem-append y front (n ∷ back) (o.all y (part_within q part y m p)));
  begins = λ part m k none x y l p b.
      let fact = λ (i : x ∈ back). o.together part m n x y k l p (before_right n x front (n ∷ back) (inl (refl, i))) (direct_stands q pairs (front ++ n ∷ back) a x y b) in
      grind (arith, l, k, mem-append x front (n ∷ back) (o.all x (direct_first q pairs w x y b)));
}
  where
    open a use {ordering as o}

-- ready runs

-- it does not matter how the done leaves are told
pub same_ready : (q : Process) (pairs : List (ℕ × ℕ)) (D E : ℕ → Type 0) (n : ℕ) → ((x : ℕ) → D x → E x) → ((x : ℕ) → E x → D x) →
    IsReady q pairs D n → IsReady q pairs E n
same_ready q pairs D E n to from h = record {
  leaf = h.leaf;
  not_done = λ e. h.not_done (from n e);
  before = λ x b. to x (h.before x b);
  outside = λ part m l x y k e p. to y (h.outside part m l x y k (from x e) p);
  begins = λ part m k none x y l p b. to x (h.begins part m k (λ z i e. none z i (to z e)) x y l p b);
}

-- ready runs are made of steps
pub ready_by_step : (q : Process) (pairs : List (ℕ × ℕ)) → IsByStep (IsReady q pairs) (IsReadyRunAfter q pairs)
ready_by_step q pairs = record {
  nothing = λ D. tt;
  step = λ D n run. (λ h. h, λ h. h);
  same = λ D E n same. same_ready q pairs D E n (λ x. (same x).0) (λ x. (same x).1);
}

pub same_run : (q : Process) (pairs : List (ℕ × ℕ)) (D E : ℕ → Type 0) (run : List ℕ) → ((x : ℕ) → D x → E x) → ((x : ℕ) → E x → D x) →
    IsReadyRunAfter q pairs D run → IsReadyRunAfter q pairs E run
same_run q pairs D E run to from = run_as (ready_by_step q pairs) D E run (λ x. (to x, from x))

pub run_front : (q : Process) (pairs : List (ℕ × ℕ)) (D : ℕ → Type 0) (front back : List ℕ) → IsReadyRunAfter q pairs D (front ++ back) →
    IsReadyRunAfter q pairs D front
run_front q pairs = RunsByStep.run_front (ready_by_step q pairs)

pub run_after_journal : (q : Process) (pairs : List (ℕ × ℕ)) (journal more : List ℕ) →
    IsReadyRun q pairs (journal ++ more) ↔ (IsReadyRun q pairs journal × IsReadyRunAfter q pairs (λ n. n ∈ journal) more)
run_after_journal q pairs journal more =
    grind (arith, run-append (ready_by_step q pairs) (λ n. ⊥) journal more, as_well (ready_by_step q pairs) (DoneOr (λ n. ⊥) journal) (λ n. n ∈ journal) more (λ n. grind arith))

-- each leaf of a ready run may come next after those before it
pub ready_at : (q : Process) (pairs : List (ℕ × ℕ)) (front : List ℕ) (n : ℕ) (back : List ℕ) → IsReadyRun q pairs (front ++ n ∷ back) →
    IsReady q pairs (λ x. x ∈ front) n
ready_at q pairs front n back h = ((run_after_journal q pairs front (n ∷ back)).0 h).1.0

-- one more ready leaf
pub run_grow : (q : Process) (pairs : List (ℕ × ℕ)) (run : List ℕ) (n : ℕ) → IsReadyRun q pairs run → IsReady q pairs (λ x. x ∈ run) n →
    IsReadyRun q pairs (run ++ n ∷ [])
run_grow q pairs run n h r = (run_after_journal q pairs run (n ∷ [])).1 (h, (r, tt))

-- each leaf of a ready run is one of the goal
pub run_leaf : (q : Process) (pairs : List (ℕ × ℕ)) (D : ℕ → Type 0) (run : List ℕ) → IsReadyRunAfter q pairs D run → (n : ℕ) → n ∈ run → n ∈ leaves q
run_leaf q pairs D [] h n m = absurd m
run_leaf q pairs D (k ∷ run) (r, h) n m = ⊎_elim (λ e. subst (λ z. z ∈ leaves q) (sym e) r.leaf) (run_leaf q pairs (DoneOr D (k ∷ [])) run h n) m

-- the leaves of a ready run are distinct and were not done
pub run_distinct : (q : Process) (pairs : List (ℕ × ℕ)) (D : ℕ → Type 0) (run : List ℕ) → IsReadyRunAfter q pairs D run →
    AreDistinct run × ((x : ℕ) → x ∈ run → ¬ (D x))
run_distinct q pairs D [] h = (tt, λ x k. absurd k)
run_distinct q pairs D (n ∷ run) h = grind (arith, run_distinct q pairs (DoneOr D (n ∷ [])) run h.1, h.0.not_done)

-- the two are one

-- a front of an execution is a ready run
pub front_ready : (q : Process) (pairs : List (ℕ × ℕ)) (t front : List ℕ) → IsOrdered q pairs → IsArrangement q pairs t → Begins t front → IsReadyRun q pairs front
front_ready q pairs t front w a b = run_of (ready_by_step q pairs) (λ x. ⊥) front (λ done n back e.
    let whole : t ≡ done ++ n ∷ (back ++ b.0) = b.1 ∙ ap (λ l. l ++ b.0) e ∙ append_assoc done (n ∷ back) b.0 in
    same_ready q pairs (λ x. x ∈ done) (DoneOr (λ x. ⊥) done) n (λ x. inr) (λ x. ⊎_elim absurd (λ l. l))
    (ready_in_arrangement q pairs done n (back ++ b.0) w (subst (IsArrangement q pairs) whole a)))

-- a complete ready run is an execution
pub complete_arranged : (q : Process) (pairs : List (ℕ × ℕ)) (t : List ℕ) → IsOrdered q pairs → IsCompleteRun q pairs t → IsArrangement q pairs t
complete_arranged q pairs t w h = record {
  ordering = record {
    leaf = λ x k. (place x k).1.leaf;
    all = h.1;
    distinct = d;
    before = λ x y k. stands x y (inl k);
    together = λ part m x y z k l p b c.
        let (front, ready, same) = place y (before_members x y t b).1 in
        not_both_ways y z t d c ((same z).0 (ready.outside part m l x z k ((same x).1 b) p));
  };
  pairs_stand = each_from_members (λ pair. StandsBefore pair.0 pair.1 t) pairs (λ pair m. stands pair.0 pair.1 (inr m));
}
  where
    d : AreDistinct t
    d = (run_distinct q pairs (λ x. ⊥) t h.0).0

    -- what stands before a member, after which that one may come
    place : (y : ℕ) → y ∈ t → (front : List ℕ) × IsReady q pairs (λ x. x ∈ front) y × ((x : ℕ) → (x ∈ front) ↔ StandsBefore x y t)
    place y m =
        let (front, back, e) = split_at y t m in
        let at = λ (x : ℕ) (k : StandsBefore x y t). in_front x y front back (subst AreDistinct e d) (subst (StandsBefore x y) e k) in
        (front, ready_at q pairs front y back (subst (IsReadyRun q pairs) e h.0), λ x. (λ k. rw e (before_across x y front (y ∷ back) k (inl refl)), at x))

    stands : (x y : ℕ) → DirectlyBefore q pairs x y → StandsBefore x y t
    stands x y b = let (front, ready, same) = place y (h.1 y (direct_second q pairs w x y b)) in (same x).0 (ready.before x b)

pub complete_runs_are_traces : CompleteRunsAreTraces
complete_runs_are_traces q pairs w t = (
  λ h. let a = complete_arranged q pairs t w h in (trace_of_ordering t q w.choice_free w.distinct a.ordering, a.pairs_stand),
  λ h. let a = arrangement_of q pairs t w h.0 h.1 in (front_ready q pairs t t w a ([], sym (append-nil t)), a.ordering.all),
)

pub fronts_are_ready : FrontsAreReady
fronts_are_ready q pairs w t front h k b = front_ready q pairs t front w (arrangement_of q pairs t w h k) b
