-- What is read from the marks of a goal.
use Rattle.std.proofs.lemmas.Bool.{or_cases, or_left, or_right}
use Rattle.std.proofs.Common.{◌≡◌, ℕ, ◌+◌, ◌==◌, ◌||◌, Bool, true, false, IsTrue, List, [], ◌∷◌, ◌++◌, length, MatchOption, inl, inr, ◌⊎◌, ◌↔◌, ⊎_elim, refl, sym, ap, ◌∙◌, ◌-◌, take, drop, subst, append-nil, append_assoc, arith, None, Some, reverse, slice_get}
use Rattle.std.proofs.lemmas.Option.{slice_get_past}
use Rattle.std.proofs.Math.Seq.{take-append_seam}
use Rattle.std.specs.List.Sorted.{IsStrictlyIncreasing}
use Rattle.leaf_rows.specs.Leaves.{has_leaf}
use Rattle.leaf_rows.specs.declared.leaf_set.LeafSet.{LeafSet}
use Rattle.flow_model.specs.Lists.{◌∈◌, AreDistinct, Each}
use Rattle.flow_model.specs.Process.{Process, Empty, Task, Sequence, Parallel, Choice, Isolated, leaves}
use Rattle.flow_model.proofs.Lists.{mem_append_left, mem_append_right, mem-append, distinct_left, distinct_right}
use Rattle.flow_goal.specs.declared.node.Node.{Node}
use Rattle.flow_goal.specs.declared.node.Node.TheVariants.{Nop, Leaf, Serial, Fork, Split, Join, Open, Close, Choose, Or, Chosen}
use Rattle.flow_goal.specs.Written.{nodes_of}
use Rattle.flow_goal.proofs.WrittenLemmas.{StandAt, first_stand, second_stand, sequence_nodes, parallel_nodes, choice_nodes, isolated_nodes, both_long, leaf_stands}
use Rattle.flow_plan.specs.declared.outline.Outline.{Outline}
use Rattle.flow_plan.specs.declared.span.Span.{Span}
use Rattle.flow_plan.specs.declared.sweep.Sweep.{Sweep}
use Rattle.flow_plan.specs.Rows.{HasRows}
use Rattle.flow_plan.specs.RowMarks.{IsJoined, IsUnion, HasThose, MakesRows, Completes}
use Rattle.flow_plan.specs.declared.sweep.Ahead.TheVariants.{Joined}
use Rattle.flow_plan.specs.Span.{at_span, AddsSpan, AddsSpans}
use Rattle.flow_plan.specs.SpanMarks.{MakesSpans, Outlines}
use Rattle.flow_plan.proofs.PlaceLemmas.{distinct_of_rising}
use Rattle.flow_plan.proofs.RowLemmas.{has_sequence, has_parallel, first_rows, one_more}
use Rattle.flow_plan.proofs.SpanLemmas.{spans_of_none, spans_of_both, spans_of_isolated}

-- ---- rows

-- what is ahead of what follows a goal
abbrev pub IsBehind : Process → (ℕ → Bool) → (ℕ → Bool) → Type 0
IsBehind g ahead more = (x : ℕ) → IsTrue (more x) ↔ (IsTrue (ahead x) ⊎ (x ∈ leaves g))

-- one test that follows from the other
covered : (s t : Bool) → (IsTrue s → IsTrue t) → t ≡ (s || t)
covered true t h = h refl
covered false t h = refl

covering : (s t : Bool) → (IsTrue t → IsTrue s) → s ≡ (s || t)
covering true t h = refl
covering false true h = h refl
covering false false h = refl

behind_sequence : (a b : Process) (ahead middle more : ℕ → Bool) → IsBehind a ahead middle → IsBehind b middle more → IsBehind (Sequence a b) ahead more
behind_sequence a b ahead middle more first second x = (
  λ has. ⊎_elim (λ h. ⊎_elim (λ before. inl before) (λ m. inr (mem_append_left x (leaves a) (leaves b) m)) ((first x).0 h))
      (λ m. inr (mem_append_right x (leaves a) (leaves b) m)) ((second x).0 has),
  λ either. ⊎_elim (λ h. (second x).1 (inl ((first x).1 (inl h))))
      (λ m. ⊎_elim (λ in_a. (second x).1 (inl ((first x).1 (inr in_a)))) (λ in_b. (second x).1 (inr in_b)) (mem-append x (leaves a) (leaves b) m)) either,
)

behind_parallel : (a b : Process) (ahead one two all : ℕ → Bool) → IsBehind a ahead one → IsBehind b ahead two → IsUnion two one all → IsBehind (Parallel a b) ahead all
behind_parallel a b ahead one two all first second is x = (
  λ has. ⊎_elim
      (λ h. ⊎_elim (λ before. inl before) (λ m. inr (mem_append_right x (leaves a) (leaves b) m)) ((second x).0 h))
      (λ h. ⊎_elim (λ before. inl before) (λ m. inr (mem_append_left x (leaves a) (leaves b) m)) ((first x).0 h))
      (or_cases (two x) (one x) (sym (is x) ∙ has)),
  λ either. is x ∙ ⊎_elim (λ h. or_left (two x) (one x) ((second x).1 (inl h)))
      (λ m. ⊎_elim (λ in_a. or_right (two x) (one x) ((first x).1 (inr in_a)))
      (λ in_b. or_left (two x) (one x) ((second x).1 (inr in_b))) (mem-append x (leaves a) (leaves b) m)) either,
)

joined_is : (a b : Process) (ahead one two all : ℕ → Bool) → IsBehind a ahead one → IsBehind b ahead two → IsJoined ahead one two all → IsUnion two one all
joined_is a b ahead one two all first second (inl (none, same)) x =
    same x ∙ covered (two x) (one x) (λ h. (first x).1 (inl (sym (none x) ∙ h)))
joined_is a b ahead one two all first second (inr (inl (none, same))) x =
    same x ∙ covering (two x) (one x) (λ h. (second x).1 (inl (sym (none x) ∙ h)))
joined_is a b ahead one two all first second (inr (inr is)) x = is x

-- the marks of a goal make the rows of its leaves
module _ (q : Process) (ns : List ℕ) where
  goal_rows : {w : ℕ} → (g : Process) (nodes : List Node) (k : ℕ) (ahead : ℕ → Bool) (forks : List ((ℕ → Bool) × (ℕ → Bool))) (rows : List (LeafSet w)) → AreDistinct (leaves g) → StandAt ns k (leaves g) →
      ((more : ℕ → Bool) (added : List (LeafSet w)) → IsBehind g ahead more → HasRows g ahead added → MakesRows q nodes ns (k + length (leaves g)) more forks (rows ++ added)) →
      MakesRows q (nodes_of g ++ nodes) ns k ahead forks rows
  goal_rows Empty nodes k ahead forks rows distinct at then =
      subst (λ (j : ℕ). MakesRows q nodes ns j ahead forks rows) (omega arith)
      (subst (λ l. MakesRows q nodes ns (k + 0) ahead forks l) (append-nil rows)
      (then ahead [] (λ x. (λ h. inl h, λ either. ⊎_elim (λ h. h) (λ none. absurd none) either)) tt))
  goal_rows {w} (Task n) nodes k ahead forks rows distinct at then =
      subst (λ o. MatchOption o ⊥ (λ n. (row : LeafSet w) → HasThose ahead row → MakesRows q nodes ns (k + 1) (λ x. x == n || ahead x) forks (rows ++ row ∷ [])))
      (sym (leaf_stands ns k n at.0 at.1))
      (λ row has. then (λ x. x == n || ahead x) (row ∷ []) (λ x. one_more x n (ahead x)) (
        (λ x. (λ h. inl (sym (has x) ∙ h), λ either. ⊎_elim (λ h. has x ∙ h) (λ none. absurd none) either)),
        tt,
      ))
  goal_rows (Sequence a b) nodes k ahead forks rows distinct at then =
      subst (λ l. MakesRows q l ns k ahead forks rows) (sym (sequence_nodes a b nodes))
      (goal_rows a (nodes_of b ++ (Serial ∷ nodes)) k ahead forks rows (distinct_left (leaves a) (leaves b) distinct) (first_stand ns k (leaves a) (leaves b) at)
      (λ middle one behind_a has_a. goal_rows b (Serial ∷ nodes) (k + length (leaves a)) middle forks (rows ++ one) (distinct_right (leaves a) (leaves b) distinct) (second_stand ns k (leaves a) (leaves b) at)
      (λ more two behind_b has_b. rw (both_long k (leaves a) (leaves b), append_assoc rows one two)
      (then more (one ++ two) (behind_sequence a b ahead middle more behind_a behind_b) (has_sequence a b ahead middle one two distinct behind_a has_a has_b)))))
  goal_rows (Parallel a b) nodes k ahead forks rows distinct at then =
      subst (λ l. MakesRows q l ns k ahead forks rows) (sym (parallel_nodes a b nodes))
      (goal_rows a (Split ∷ (nodes_of b ++ (Join ∷ nodes))) k ahead ((ahead, ahead) ∷ forks) rows (distinct_left (leaves a) (leaves b) distinct) (first_stand ns k (leaves a) (leaves b) at)
      (λ first one behind_a has_a. goal_rows b (Join ∷ nodes) (k + length (leaves a)) ahead ((ahead, first) ∷ forks) (rows ++ one) (distinct_right (leaves a) (leaves b) distinct) (second_stand ns k (leaves a) (leaves b) at)
      (λ second two behind_b has_b. λ all is. rw (both_long k (leaves a) (leaves b), append_assoc rows one two)
      (then all (one ++ two) (behind_parallel a b ahead first second all behind_a behind_b (joined_is a b ahead first second all behind_a behind_b is)) (has_parallel a b ahead one two distinct has_a has_b)))))
  goal_rows (Choice a b) nodes k ahead forks rows distinct at then =
      subst (λ l. MakesRows q l ns k ahead forks rows) (sym (choice_nodes a b nodes))
      (goal_rows a (Or ∷ (nodes_of b ++ (Chosen ∷ nodes))) k ahead ((ahead, ahead) ∷ forks) rows (distinct_left (leaves a) (leaves b) distinct) (first_stand ns k (leaves a) (leaves b) at)
      (λ first one behind_a has_a. goal_rows b (Chosen ∷ nodes) (k + length (leaves a)) ahead ((ahead, first) ∷ forks) (rows ++ one) (distinct_right (leaves a) (leaves b) distinct) (second_stand ns k (leaves a) (leaves b) at)
      (λ second two behind_b has_b. λ all is. rw (both_long k (leaves a) (leaves b), append_assoc rows one two)
      (then all (one ++ two) (behind_parallel a b ahead first second all behind_a behind_b (joined_is a b ahead first second all behind_a behind_b is)) (has_parallel a b ahead one two distinct has_a has_b)))))
  goal_rows (Isolated a) nodes k ahead forks rows distinct at then =
      subst (λ l. MakesRows q l ns k ahead forks rows) (sym (isolated_nodes a nodes)) (goal_rows a (Close ∷ nodes) k ahead forks rows distinct at then)

-- and those of a whole goal the rows of all leaves
pub begun_rows : {w : ℕ} → (q : Process) (nodes : List Node) (ns : List ℕ) (s : Sweep w) → IsStrictlyIncreasing ns → nodes ≡ nodes_of q → ns ≡ leaves q →
    (empty : LeafSet w) × ((x : ℕ) → has_leaf empty x ≡ false) × (s.joined.items ≡ empty ∷ []) → s.ahead ≡ Joined 0 → s.forks.items ≡ [] → s.rows.items ≡ [] → Completes q nodes ns s
begun_rows {w} q nodes ns s rising are listed (empty, none, joined) ahead forks rows =
    rw (joined, ahead, forks, rows, are) (
      (λ x. false),
      [],
      (empty, refl, none),
      tt,
      subst (λ l. MakesRows {w = w} q l ns 0 (λ x. false) [] []) (append-nil (nodes_of q))
          (goal_rows q ns {w = w} q [] 0 (λ x. false) [] [] (subst AreDistinct listed (distinct_of_rising ns rising)) ([], listed ∙ sym (append-nil (leaves q)))
          (λ more added behind has. rw listed (first_rows q (λ x. false) added (λ x. refl) has))),
    )

-- ---- spans

stands_at_span : (ns : List ℕ) (k : ℕ) (xs : List ℕ) → StandAt ns k xs → at_span (record { first = k; end = k + length xs }) ns ≡ xs
stands_at_span ns k xs at =
    let long : k + length xs - k ≡ length xs = omega arith in
    ap (λ (m : ℕ). take m (drop k ns)) long ∙ ap (take (length xs)) at.1 ∙ take-append_seam xs at.0

module _ (q : Process) where
  goal_spans : (g : Process) (nodes : List Node) (k : ℕ) (opens : List ℕ) (spans : List Span) → StandAt (leaves q) k (leaves g) →
      ((new : List Span) → AddsSpans g (leaves q) k spans new → MakesSpans q nodes (k + length (leaves g)) opens new) →
      MakesSpans q (nodes_of g ++ nodes) k opens spans
  goal_spans Empty nodes k opens spans at then =
      subst (λ (j : ℕ). MakesSpans q nodes j opens spans) (omega arith) (then spans (spans_of_none Empty (leaves q) k spans refl))
  goal_spans (Task n) nodes k opens spans at then = (n, leaf_stands (leaves q) k n at.0 at.1, then spans (spans_of_none (Task n) (leaves q) k spans refl))
  goal_spans (Sequence a b) nodes k opens spans at then =
      subst (λ l. MakesSpans q l k opens spans) (sym (sequence_nodes a b nodes))
      (goal_spans a (nodes_of b ++ (Serial ∷ nodes)) k opens spans (first_stand (leaves q) k (leaves a) (leaves b) at)
      (λ mid adds_a. goal_spans b (Serial ∷ nodes) (k + length (leaves a)) opens mid (second_stand (leaves q) k (leaves a) (leaves b) at)
      (λ new adds_b. rw (both_long k (leaves a) (leaves b)) (then new (spans_of_both (Sequence a b) a b (leaves q) k spans mid new refl refl adds_a adds_b)))))
  goal_spans (Parallel a b) nodes k opens spans at then =
      subst (λ l. MakesSpans q l k opens spans) (sym (parallel_nodes a b nodes))
      (goal_spans a (Split ∷ (nodes_of b ++ (Join ∷ nodes))) k opens spans (first_stand (leaves q) k (leaves a) (leaves b) at)
      (λ mid adds_a. goal_spans b (Join ∷ nodes) (k + length (leaves a)) opens mid (second_stand (leaves q) k (leaves a) (leaves b) at)
      (λ new adds_b. rw (both_long k (leaves a) (leaves b)) (then new (spans_of_both (Parallel a b) a b (leaves q) k spans mid new refl refl adds_a adds_b)))))
  goal_spans (Choice a b) nodes k opens spans at then =
      subst (λ l. MakesSpans q l k opens spans) (sym (choice_nodes a b nodes))
      (goal_spans a (Or ∷ (nodes_of b ++ (Chosen ∷ nodes))) k opens spans (first_stand (leaves q) k (leaves a) (leaves b) at)
      (λ mid adds_a. goal_spans b (Chosen ∷ nodes) (k + length (leaves a)) opens mid (second_stand (leaves q) k (leaves a) (leaves b) at)
      (λ new adds_b. rw (both_long k (leaves a) (leaves b)) (then new (spans_of_both (Choice a b) a b (leaves q) k spans mid new refl refl adds_a adds_b)))))
  goal_spans (Isolated a) nodes k opens spans at then =
      subst (λ l. MakesSpans q l k opens spans) (sym (isolated_nodes a nodes))
      (goal_spans a (Close ∷ nodes) k (k ∷ opens) spans at
      (λ mid adds. λ new adds_span. then new (spans_of_isolated a (leaves q) (record { first = k; end = k + length (leaves a) }) spans mid new (stands_at_span (leaves q) k (leaves a) at) refl adds adds_span)))

pub begun_spans : (q : Process) (nodes : List Node) (o : Outline) → nodes ≡ nodes_of q → o.place ≡ 0 → o.opens.items ≡ [] → o.spans.items ≡ [] → Outlines q nodes o
begun_spans q nodes o are place opens spans =
    rw (place, opens, spans, are)
    (subst (λ l. MakesSpans q l 0 [] []) (append-nil (nodes_of q)) (goal_spans q q [] 0 [] [] ([], sym (append-nil (leaves q))) (λ new adds. adds)))

-- a part that begins behind the last leaf has none
adds_short : (first k : ℕ) (spans : List Span) → first ≡ k → AddsSpan (record { first = first; end = k }) spans spans
adds_short first k spans e = record {
  kept = λ s m. m;
  sound = λ s m. inl m;
  complete = inl (omega (arith, e));
  rising = λ rising all. rising;
}

no_more_spans : (q : Process) (nodes : List Node) (k : ℕ) (opens : List ℕ) (spans : List Span) → slice_get (leaves q) k ≡ None → Each (λ first. first ≡ k) opens →
    MakesSpans q nodes k opens spans → AddsSpans q (leaves q) 0 [] spans
no_more_spans q [] k opens spans none all h = h
no_more_spans q (Leaf ∷ nodes) k opens spans none all h = let e : Some h.0 ≡ None = sym h.1 ∙ none in absurd (cc)
no_more_spans q (Open ∷ nodes) k opens spans none all h = no_more_spans q nodes k (k ∷ opens) spans none (refl, all) h
no_more_spans q (Close ∷ nodes) k [] spans none all h = absurd h
no_more_spans q (Close ∷ nodes) k (first ∷ more) spans none all h = no_more_spans q nodes k more spans none all.1 (h spans (adds_short first k spans all.0))
no_more_spans q (Nop ∷ nodes) k opens spans none all h = no_more_spans q nodes k opens spans none all h
no_more_spans q (Serial ∷ nodes) k opens spans none all h = no_more_spans q nodes k opens spans none all h
no_more_spans q (Fork ∷ nodes) k opens spans none all h = no_more_spans q nodes k opens spans none all h
no_more_spans q (Split ∷ nodes) k opens spans none all h = no_more_spans q nodes k opens spans none all h
no_more_spans q (Join ∷ nodes) k opens spans none all h = no_more_spans q nodes k opens spans none all h
no_more_spans q (Choose ∷ nodes) k opens spans none all h = no_more_spans q nodes k opens spans none all h
no_more_spans q (Or ∷ nodes) k opens spans none all h = no_more_spans q nodes k opens spans none all h
no_more_spans q (Chosen ∷ nodes) k opens spans none all h = no_more_spans q nodes k opens spans none all h

pub nothing : (list : List ℕ) → length list ≡ 0 → list ≡ []
nothing [] e = refl
nothing (x ∷ list) e = absurd (omega (arith, e))

pub all_drawn : (q : Process) (nodes : List Node) (o : Outline) → o.place ≡ length (leaves q) → o.opens.items ≡ [] → Outlines q nodes o → AddsSpans q (leaves q) 0 [] o.spans.items
all_drawn q nodes o whole none h =
    no_more_spans q nodes o.place [] o.spans.items (slice_get_past (leaves q) o.place (omega (arith, whole))) tt
    (subst (λ (opens : List ℕ). MakesSpans q nodes o.place (reverse opens) o.spans.items) none h)
