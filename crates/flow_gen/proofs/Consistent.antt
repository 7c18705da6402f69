-- A generated workflow is consistent.
use Rattle.std.proofs.Common.{◌≡◌, ℕ, ◌+◌, ◌*◌, ◌<◌, ◌≤◌, List, [], ◌∷◌, Option, Some, length, sym, ap, subst, ◌∙◌, refl, inl, inr, arith}
use Rattle.std.specs.List.{filter_map, cons_option}
use Rattle.std.proofs.Math.Nat.{le-mul_of_pos_right}
use Rattle.flow_model.specs.declared.limits.TheConstants.{GREATEST_SIZE}
use Rattle.flow_model.specs.Lists.{◌∈◌, Each}
use Rattle.flow_model.specs.Facts.{event_at, events_of}
use Rattle.flow_model.specs.Process.{Process, Empty, Task, Sequence, Parallel, Choice, Isolated, leaves}
use Rattle.flow_model.specs.Resolution.{resolutions, resolution_count}
use Rattle.flow_model.specs.Constraint.{Meets}
use Rattle.flow_model.specs.Decided.{Decided, decide_in}
use Rattle.flow_model.specs.Schema.{IsGood}
use Rattle.flow_model.proofs.Lists.{each_to}
use Rattle.flow_model.proofs.MadeLists.{numbers_from_below}
use Rattle.flow_laws.proofs.ResolutionsLemmas.{resolves_of, choice_free_resolution, goal_trace, mem-leaves_of_goal, length-resolutions}
use Rattle.flow_goal.proofs.Rising.{Rises, increasing, resolution_rises}
use Rattle.flow_workflow.specs.Definition.{Definition, schema_of}
use Rattle.flow_expand.specs.Numbers.{numbered}
use Rattle.flow_expand.specs.Workflows.{definition_of}
use Rattle.flow_gen.specs.Generated.{generated}
use Rattle.flow_gen.specs.Laws.{LeavesAreGoodTraces, WorkflowsAreConsistent}
use Rattle.flow_gen.proofs.Expanded.{expansion, leaves_are, the_definition, leaf_event}
use Rattle.flow_gen.proofs.Precedences.{precedence, IsPrecedence, rules_are}
use Rattle.flow_sample.proofs.ForwardLemmas.{straight, rising_before}

met_by : (low high : ℕ) (t : List ℕ) → Rises low t high → (x y : ℕ) → x < y → Decided (x ∈ t) → Decided (y ∈ t) → Meets (precedence x y) t
met_by low high t rises x y less (inr absent) other = inl (inl (inr absent))
met_by low high t rises x y less (inl i) (inr absent) = inl (inr absent)
met_by low high t rises x y less (inl i) (inl j) = inr (rising_before t (increasing low high t rises) x y i j less, j)

-- where each is its own value, the values are the list
own_values : (f : ℕ → Option ℕ) (xs : List ℕ) → ((x : ℕ) → x ∈ xs → f x ≡ Some x) → filter_map f xs ≡ xs
own_values f [] h = refl
own_values f (x ∷ xs) h = ap (λ (o : Option ℕ). cons_option o (filter_map f xs)) (h x (inl refl)) ∙ ap (λ ys. x ∷ ys) (own_values f xs (λ y m. h y (inr m)))

good_leaves : (seed size : ℕ) (some : 1 ≤ size) (few : size ≤ GREATEST_SIZE) (q : Process) →
    q ∈ resolutions (numbered 0 (expansion seed size some few)) → IsGood (schema_of (definition_of (generated seed size) (expansion seed size some few))) (leaves q)
good_leaves seed size some few q m =
    let w = definition_of (generated seed size) (expansion seed size some few) in
    let g = numbered 0 (expansion seed size some few) in
    let is = resolves_of g q m in
    let rises = resolution_rises g q 0 (8 * size) (leaves_are seed size some few) is in
    let below : (x : ℕ) → x ∈ leaves q → x < 8 * size = λ x i.
    let in_goal = subst (λ ns. x ∈ ns) (leaves_are seed size some few) (mem-leaves_of_goal g q is x i) in omega (arith, numbers_from_below 0 (8 * size) x in_goal) in
    let same : events_of w.tree.labels (leaves q) ≡ leaves q = own_values (event_at w.tree.labels) (leaves q) (λ x i. leaf_event seed size some few x (below x i)) in (
      goal_trace g q m (leaves q) (straight q (choice_free_resolution g q is)),
      subst (λ t. Each (λ rule. Meets rule t) w.rules) (sym same)
          (each_to IsPrecedence (λ rule. Meets rule (leaves q)) w.rules
          (λ rule p. subst (λ c. Meets c (leaves q)) (sym p.is)
          (met_by 0 (0 + 8 * size) (leaves q) rises p.first p.second p.less (decide_in p.first (leaves q)) (decide_in p.second (leaves q))))
          (rules_are seed size some few)),
    )

pub leaves_are_good_traces : LeavesAreGoodTraces
leaves_are_good_traces seed size w some few h =
    subst (λ (v : Definition). (q : Process) → q ∈ resolutions v.tree.process → IsGood (schema_of v) (leaves q)) (sym (the_definition seed size some few w h)) (good_leaves seed size some few)

some_product : (m n : ℕ) → 0 < m → 0 < n → 0 < m * n
some_product m n p q = let le : m ≤ m * n = le-mul_of_pos_right m q in omega arith

-- every goal has a resolution
some_resolution : (g : Process) → 0 < resolution_count g
some_resolution (Sequence a b) = some_product (resolution_count a) (resolution_count b) (some_resolution a) (some_resolution b)
some_resolution (Parallel a b) = some_product (resolution_count a) (resolution_count b) (some_resolution a) (some_resolution b)
some_resolution (Choice a b) = omega (arith, some_resolution a)
some_resolution (Isolated a) = some_resolution a
some_resolution Empty = omega arith
some_resolution (Task n) = omega arith

first_of : {A : Type 0} (xs : List A) → 1 ≤ length xs → (x : A) × (x ∈ xs)
first_of [] h = absurd (omega (arith, h))
first_of (x ∷ xs) h = (x, inl refl)

pub workflows_are_consistent : WorkflowsAreConsistent
workflows_are_consistent seed size w some few h =
    let (q, m) = first_of (resolutions w.tree.process) (omega (arith, some_resolution w.tree.process, length-resolutions w.tree.process)) in
    (leaves q, leaves_are_good_traces seed size w some few h q m)
