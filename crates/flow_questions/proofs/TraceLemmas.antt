-- A run of a plan begins a good trace, and each next leaf of it may come next.
use Rattle.std.proofs.Common.{◌≡◌, ◌≤◌, ◌+◌, ◌*◌, ℕ, List, [], ◌∷◌, ◌++◌, length, inl, inr, ⊎_elim, sym, ap, subst, ◌∙◌, append_assoc, arith, length-append}
use Rattle.flow_model.specs.declared.labels.Label.{Label}
use Rattle.flow_model.specs.Duties.{Duties}
use Rattle.flow_model.specs.Facts.{State, HoldsAt, after_leaf, replay, Runs}
use Rattle.flow_model.specs.Folding.{folded_options, is_named}
use Rattle.flow_model.specs.FoldedReady.{IsFoldedRun}
use Rattle.flow_model.specs.Lists.{◌∈◌, AreDistinct, Begins}
use Rattle.flow_model.specs.Process.{leaves}
use Rattle.flow_model.specs.Ready.{DoneOr}
use Rattle.flow_model.specs.Resolution.{ChoiceOption}
use Rattle.flow_model.specs.Schema.{Schema, IsGood, start_of}
use Rattle.flow_model.proofs.Lists.{mem_append_left, mem_here, distinct_left, at_most}
use Rattle.flow_model.proofs.MadeLists.{begins_front, mem-map, numbers_from_below}
use Rattle.flow_laws.specs.WellFormed.{IsWellFormed}
use Rattle.flow_laws.proofs.OptionsLemmas.{distinct_leaves}
use Rattle.flow_laws.proofs.RunsByStep.{run-append}
use Rattle.flow_laws.proofs.TraceLeaves.{leaf_of_trace, distinct_trace}
use Rattle.flow_fold_laws.proofs.FoldedOrdersByTwo.{folded_by_step, same_folded_ready}
use Rattle.flow_fold_laws.proofs.FoldedRunsLemmas.{folded_runs_extend}
use Rattle.flow_fold_laws.proofs.UnfoldedOptions.{folded_option_is_ordered, folded_option_trace_is_good}
use Rattle.flow_plan.specs.Compilation.{Compilation, IsCompiled}
use Rattle.flow_plan.specs.Options.{option_of, options_of, HasExecution, AreJustThose}
use Rattle.flow_plan.specs.Orders as orders
use Rattle.flow_plan.specs.Planned.{Planned, pairs_of}
use Rattle.flow_plan.specs.Sampled.{Sampled}
use Rattle.flow_stages.specs.declared.question.Question.{Question}
use Rattle.flow_stages.specs.Asked.{FitsAfter, IsRunOf, IsEventOf}
use Rattle.flow_questions.specs.Made.{MayComeNext}

-- an option that is kept is one of the list, and has an execution
kept_has : (os kept : List ChoiceOption) → AreJustThose HasExecution os kept → (o : ChoiceOption) → o ∈ kept → (o ∈ os) × HasExecution o
kept_has [] kept h o m = absurd (subst (λ (l : List ChoiceOption). o ∈ l) h m)
kept_has (p ∷ os) kept (inl (g, (rest, e, s))) o m = ⊎_elim
    (λ same. (inl same, subst HasExecution (sym same) g))
    (λ k. let (there, x) = kept_has os rest s o k in (inr there, x))
    (subst (λ (l : List ChoiceOption). o ∈ l) e m)
kept_has (p ∷ os) kept (inr (n, s)) o m = let (there, x) = kept_has os kept s o m in (inr there, x)

-- some good trace begins with the leaves
abbrev pub BeginsTrace : Schema → List ℕ → Type 0
BeginsTrace w list = (t : List ℕ) × IsGood w t × Begins t list

-- a run of a plan does
pub begins_trace : (w : Schema) → IsWellFormed w → (c : Compilation) → IsCompiled w c → (kept : Sampled) → kept ∈ c.plans → (list : List ℕ) →
    IsFoldedRun kept.plan.process (pairs_of kept.plan.tokens) list → BeginsTrace w list
begins_trace w f c compiled kept m list run =
    let o : ChoiceOption = option_of kept.plan in
    let (there, (s, (trace, stands))) = kept_has (folded_options w) (options_of c.plans) compiled.plans o (mem-map (λ (s : Sampled). option_of s.plan) kept c.plans m) in
    let (t, in_t, order, begins) = folded_runs_extend o.resolution o.order (folded_option_is_ordered (is_named w) w f o there) (s, trace, stands) list run in
    (t, folded_option_trace_is_good (is_named w) w f (λ k h. h) t o there (in_t, order), begins)

-- a good trace has no more leaves than the workflow
pub trace_within : (w : Schema) → IsWellFormed w → (list : List ℕ) → BeginsTrace w list → length list ≤ length w.labels
trace_within w f list (t, good, (rest, e)) =
    let once : AreDistinct t = distinct_trace w.goal (distinct_leaves w f) t good.0 in
    let below = at_most (length w.labels) t once (λ n m. omega (arith, numbers_from_below 0 (length w.labels) n (subst (λ l. n ∈ l) f.numbered (leaf_of_trace w.goal t good.0 n m)))) in
    omega (arith, below, ap length e, length-append list rest)

-- each label holds when its turn comes
holds_at : (labels : List Label) (s : State) (front rest : List ℕ) (n : ℕ) → Runs labels s (front ++ n ∷ rest) → HoldsAt labels (replay labels s front) n
holds_at labels s [] rest n run = run.0
holds_at labels s (k ∷ front) rest n run = holds_at labels (after_leaf labels s k) front rest n run.1

-- the next leaf of a run whose events may go to these users
pub next_of : (w : Schema) (d : Duties) (p : Planned) (question : Question) (list front rest : List ℕ) (n : ℕ) (to : ℕ → ℕ) → list ≡ front ++ n ∷ rest →
    BeginsTrace w list → IsRunOf w p list → FitsAfter w d question list to → MayComeNext w d front to n
next_of w d p question list front rest n to cut (t, good, begins) run fits =
    let here : n ∈ list = subst (λ l. n ∈ l) (sym cut) (mem_here n front rest) in record {
      goes_on = (t, good, begins_front t (front ++ n ∷ []) rest (subst (Begins t) (cut ∙ sym (append_assoc front (n ∷ []) rest)) begins));
      holds = holds_at w.labels (start_of w) front rest n (subst (Runs w.labels (start_of w)) cut run.runs);
      role = λ event of. fits.role event (inr (n, here, of));
      beside = λ event other of (m, there, is).
          let goes = fits.beside event other (inr (n, here, of)) (inr (m, subst (λ l. m ∈ l) (sym cut) (mem_append_left m front (n ∷ rest) there), is)) in
          record { same = goes.same; apart = goes.apart; together = goes.together; one = absurd };
    }

-- a leaf that may come next after a run is one of a longer run
pub one_more_leaf : (p : Planned) (list : List ℕ) (n : ℕ) → IsFoldedRun p.process (pairs_of p.tokens) list → orders.MayComeNext p (λ x. x ∈ list) n →
    IsFoldedRun p.process (pairs_of p.tokens) (list ++ n ∷ [])
one_more_leaf p list n run next =
    (run-append (folded_by_step p.process (pairs_of p.tokens)) (λ x. ⊥) list (n ∷ [])).1
    (run, (same_folded_ready p.process (pairs_of p.tokens) (λ x. x ∈ list) (DoneOr (λ x. ⊥) list) n (λ x. inr) (λ x. ⊎_elim absurd (λ m. m)) next, tt))
