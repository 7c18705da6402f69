-- What the options of a workflow have, and what follows when all were looked at.
use Rattle.std.proofs.lemmas.Bool.{eq-eqb}
use Rattle.std.proofs.Common.{true≢false, ◌==◌, ◌≡◌, ◌≢◌, ℕ, ◌+◌, ◌-◌, ◌<◌, ◌≤◌, Bool, false, List, [], ◌∷◌, ◌++◌, length, map, refl, sym, ap, ◌∙◌, subst, inl, inr, arith, Result, Ok, Err, IfOk, IfErr}
use Rattle.std.specs.List.{All, flat_map}
use Rattle.std.proofs.lemmas.List.Elements.{All-nil, All-cons}
use Rattle.std.proofs.lemmas.List.{map-append}
use Rattle.std.proofs.lemmas.List.Concat.{flat_map-cons}
use Rattle.flow_model.specs.declared.limits.TheConstants.{GREATEST_BULK, MOST_LEAVES, MOST_OPTIONS, MOST_RESOLUTIONS}
use Rattle.flow_model.specs.Lists.{◌∈◌, AreDistinct}
use Rattle.flow_model.specs.Process.{Process, leaves}
use Rattle.flow_model.specs.Constraint.{Constraint, all_of}
use Rattle.flow_model.specs.Ways.{Normal, leaf_of_event}
use Rattle.flow_model.specs.Schema.{Schema}
use Rattle.flow_model.specs.Folding.{fixed_leaves, folded_count, folded_options, folded_options_in, folded_resolutions, is_named, named_events, staying_choices}
use Rattle.flow_model.specs.Resolution.{ChoiceOption, option_size}
use Rattle.flow_laws.specs.WellFormed.{IsWellFormed, IsConsistent}
use Rattle.flow_model.proofs.Lists.{each_from_members, mem_append_right}
use Rattle.flow_model.proofs.MadeLists.{mem-map, mem-numbers_from, numbers_from_below}
use Rattle.flow_laws.proofs.FoldingLemmas.{folds_to, mem-folded_leaves}
use Rattle.flow_laws.proofs.OptionsLemmas.{distinct_leaves}
use Rattle.flow_fold_laws.proofs.StayingChoices.{HaveLeavesIn, staying_have}
use Rattle.flow_fold_laws.proofs.UnfoldedOptions.{folded_option_is_ordered, folded_option_of_good, folded_option_parts, folded_option_trace_is_good}
use Rattle.flow_goal.specs.Labelled.{Labelled}
use Rattle.flow_goal.specs.Folds.{AreFoldsOf, AreSpansOf}
use Rattle.flow_goal.specs.declared.fold.Fold.{Fold}
use Rattle.flow_goal.specs.Capped.{capped}
use Rattle.flow_plan.specs.Sampled.{Sampled}
use Rattle.flow_excise.specs.declared.refusal.Dropped.{Dropped}
use Rattle.flow_excise.specs.declared.refusal.CompileRefusal.{CompileRefusal}
use Rattle.flow_excise.specs.declared.refusal.CompileRefusal.TheVariants.{TooManyChoices, TooManyWays, TooBulky, Inconsistent, NoMemory}
use Rattle.flow_plan.specs.Options.{HasExecution, AreJustThose, options_of, option_of}
use Rattle.flow_excise.specs.Executions.{NumberedOption, numbered_ways, numbered_options, TellOfAll, AreSifted}
use Rattle.flow_plan.specs.declared.counts.Counts.{Counts}
use Rattle.flow_excise.specs.declared.sieve.Sieve.{Sieve}
use Rattle.flow_excise.specs.declared.tally.Tally.{Tally}
use Rattle.flow_excise.specs.Compilation.{all_numbered, IsRefused}
use Rattle.flow_plan.specs.Compilation.{AreShared, Compilation, IsCompiled, IsWithinLimits}
use Rattle.flow_plan.specs.FoldRows.{AreFoldRows, IsWithinLimit}
use Rattle.flow_plan.specs.declared.fold_row.FoldRow.{FoldRow}
use Rattle.flow_excise.specs.Limits.{AreFew, bulk_of, IsTooMany}
use Rattle.flow_excise.specs.Options.{FoldedTree, schema_with, option_by, options_by, all_options_by, count_in, folded, resolutions_in, tree_by}
use Rattle.flow_excise.specs.declared.folded_choices.FoldedChoices.{FoldedChoices}
use Rattle.flow_excise.specs.Sieve.{ArePlannable, HasSifted}
use Rattle.flow_rules.specs.Conjunction.{HasWaysOf}
use Rattle.flow_excise.proofs.SiftingLemmas.{options_told, told_ways, just_those, all_dropped, some_kept}
use Rattle.flow_plan.proofs.KeptOptions.{kept_has}
use Rattle.flow_excise.proofs.TallyLemmas.{bulk-cons}

-- the options by the normal form are those of the workflow

-- where the choices stay of which the constraints do not speak
abbrev pub named_tree : Labelled → List Constraint → FoldedTree
named_tree t rules = tree_by t (is_named (schema_with t rules))

same_in : (t : Labelled) (rules : List Constraint) (n : Normal) → HasWaysOf n (all_of rules) → options_by (named_tree t rules) n ≡ folded_options_in (schema_with t rules)
same_in t rules n h = λ i q. map (λ way. option_by q way) (h (leaf_of_event t.labels (fixed_leaves q)) i)

pub same_options : (t : Labelled) (rules : List Constraint) (n : Normal) → HasWaysOf n (all_of rules) → all_options_by (named_tree t rules) n ≡ folded_options (schema_with t rules)
same_options t rules n h = λ i. flat_map (same_in t rules n h i) (resolutions_in (named_tree t rules))

pub same_numbered : (t : Labelled) (rules : List Constraint) (n : Normal) → HasWaysOf n (all_of rules) →
    numbered_options 0 (map (options_by (named_tree t rules) n) (resolutions_in (named_tree t rules))) ≡ all_numbered (schema_with t rules)
same_numbered t rules n h = λ i. numbered_options 0 (map (same_in t rules n h i) (resolutions_in (named_tree t rules)))

-- the choices stay that were seen to stay
pub named_so : (t : Labelled) (choices : FoldedChoices) (rules : List Constraint) → AreFoldsOf t (named_events (all_of rules)) choices.folds →
    folded t choices ≡ named_tree t rules
named_so t choices rules h = λ i. tree_by t (λ leaf. h.named leaf i)

told_all : (r : ℕ) (f : Process → List ChoiceOption) (qs : List Process) → options_told (numbered_options r (map f qs)) ≡ flat_map f qs
told_all r f [] = refl
told_all r f (q ∷ qs) =
    map-append (λ (n : NumberedOption). n.option) (numbered_ways r 0 (f q)) (numbered_options (r + 1) (map f qs))
    ∙ (λ i. told_ways r 0 (f q) i ++ told_all (r + 1) f qs i) ∙ sym (flat_map-cons f q qs)

pub told_options : (w : Schema) → options_told (all_numbered w) ≡ folded_options w
told_options w = told_all 0 (folded_options_in w) (folded_resolutions (is_named w) w.goal)

-- each option can be made a plan of

size_within : (os : List ChoiceOption) (o : ChoiceOption) → o ∈ os → option_size o ≤ bulk_of os
size_within [] o m = absurd m
size_within (p ∷ os) o (inl e) = omega (arith, bulk-cons p os, ap option_size e)
size_within (p ∷ os) o (inr m) = omega (arith, bulk-cons p os, size_within os o m)

pub plannable : (w : Schema) (os : List ChoiceOption) → IsWellFormed w → length w.labels ≤ MOST_LEAVES → os ≡ folded_options w → bulk_of os ≤ GREATEST_BULK → ArePlannable os
plannable w os f small e light o m =
    let there : o ∈ folded_options w = subst (λ l. o ∈ l) e m in
    let parts = folded_option_parts (is_named w) w o there in record {
      ordered = folded_option_is_ordered (is_named w) w f o there;
      small = each_from_members (λ n. n < MOST_LEAVES) (leaves o.resolution) (λ n k.
          let in_goal = mem-folded_leaves (is_named w) w.goal o.resolution (folds_to (is_named w) w.goal o.resolution parts.0) n k in
          let below = numbers_from_below 0 (length w.labels) n (subst (λ l. n ∈ l) f.numbered in_goal) in
          omega arith);
      few = let size = size_within os o m in omega arith;
    }

-- the answers

pub too_many : (w : Schema) (os : List ChoiceOption) (e : CompileRefusal) → os ≡ folded_options w → folded_count (is_named w) w.goal ≤ MOST_RESOLUTIONS → IsTooMany os e → IsRefused w e
too_many w os (TooManyChoices count) s r h = absurd h
too_many w os (TooManyWays count) s r h =
    (r, (subst (λ (l : List ChoiceOption). MOST_OPTIONS < length l) s h.0, h.1 ∙ ap (λ (l : List ChoiceOption). capped (length l)) s))
too_many w os (TooBulky count) s r h =
    (r, (subst (λ (l : List ChoiceOption). length l ≤ MOST_OPTIONS) s h.0, (subst (λ (l : List ChoiceOption). GREATEST_BULK < bulk_of l) s h.1.0, h.1.1 ∙ ap (λ (l : List ChoiceOption). capped (bulk_of l)) s)))
too_many w os (Inconsistent dropped) s r h = absurd h
too_many w os NoMemory s r h = tt

module _ (w : Schema) (f : IsWellFormed w) (plans : List Sampled) (dropped : List Dropped) (s : AreSifted (all_numbered w) (options_of plans) dropped) where
  pub plans_are : AreJustThose HasExecution (folded_options w) (options_of plans)
  plans_are =
      subst (λ (l : List ChoiceOption). AreJustThose HasExecution l (options_of plans)) (told_options w)
      (just_those (all_numbered w) (options_of plans) dropped
      (λ n m. folded_option_is_ordered (is_named w) w f n.option (subst (λ l. n.option ∈ l) (told_options w) (mem-map (λ (x : NumberedOption). x.option) n (all_numbered w) m))) s)

  pub none_consistent : plans ≡ [] → ¬ (IsConsistent w)
  none_consistent e (t, good) =
      let o = folded_option_of_good (is_named w) w f (λ n h. h) t good in
      some_kept (folded_options w) (options_of plans) plans_are o.0 o.1 (t, o.2) (ap options_of e)

  pub all_told : plans ≡ [] → TellOfAll (all_numbered w) dropped
  all_told e = all_dropped (all_numbered w) (options_of plans) dropped (ap options_of e) s

  consistent_by : (o : ChoiceOption) → o ∈ options_of plans → IsConsistent w
  consistent_by o m =
      let k = kept_has (folded_options w) (options_of plans) plans_are o m in
      ((k.1).0, folded_option_trace_is_good (is_named w) w f (λ n h. h) (k.1).0 o k.0 (k.1).1)

  pub consistent_plans : (l : List Sampled) → plans ≡ l → l ≢ [] → IsConsistent w
  consistent_plans [] e n = absurd (n refl)
  consistent_plans (p ∷ l) e n = consistent_by (option_of p.plan) (subst (λ z. option_of p.plan ∈ options_of z) (sym e) (inl refl))

-- the leaves of choices that stay have their bits

within_limit : (ns : List ℕ) (choices : List (Process × Process)) (folds : List Fold) → HaveLeavesIn ns choices → ((n : ℕ) → n ∈ ns → n < MOST_LEAVES) →
    AreSpansOf choices folds → All IsWithinLimit folds
within_limit ns [] [] have small spans = All-nil IsWithinLimit
within_limit ns [] (fold ∷ folds) have small spans = absurd spans
within_limit ns (choice ∷ choices) [] have small spans = absurd spans
within_limit ns (choice ∷ choices) (fold ∷ folds) have small (span, spans) =
    let last : ℕ = fold.end - 1 in
    let right : last ∈ leaves choice.1 = subst (λ l. last ∈ l) (sym span.right)
    (mem-numbers_from fold.middle (fold.end - fold.middle) last (omega (arith, span.right_some)) (omega (arith, span.right_some))) in
    let below = small last (have choice (inl refl) last (mem_append_right last (leaves choice.0) (leaves choice.1) right)) in
    All-cons IsWithinLimit fold folds
    (record { left = omega (arith, span.left_some); right = omega (arith, span.right_some); end = omega (arith, below, span.right_some) })
    (within_limit ns choices folds (λ c m. have c (inr m)) small spans)

pub spans_within : (t : Labelled) (these : List Constraint) (folds : List Fold) → IsWellFormed (schema_with t these) → length t.labels ≤ MOST_LEAVES →
    AreSpansOf (staying_choices (is_named (schema_with t these)) t.process) folds → All IsWithinLimit folds
spans_within t these folds f small spans =
    within_limit (leaves t.process) (staying_choices (is_named (schema_with t these)) t.process) folds (staying_have (is_named (schema_with t these)) t.process)
    (λ n m. let below = numbers_from_below 0 (length t.labels) n (subst (λ l. n ∈ l) f.numbered m) in omega arith) spans

-- the answers where the options are counted and sifted, by a normal form of the constraints

module _ (t : Labelled) (these : List Constraint) (n : Normal) (same : HasWaysOf n (all_of these)) (f : IsWellFormed (schema_with t these))
    (few : count_in (named_tree t these) ≤ MOST_RESOLUTIONS) (tally : Tally) (counted : AreFew (all_options_by (named_tree t these) n) tally) (sieve : Sieve)
    (sifted : HasSifted (numbered_options 0 (map (options_by (named_tree t these) n) (resolutions_in (named_tree t these)))) sieve) where
  all_sifted : AreSifted (all_numbered (schema_with t these)) (options_of sieve.kept.items) sieve.dropped.items
  all_sifted = subst (λ ns. AreSifted ns (options_of sieve.kept.items) sieve.dropped.items) (same_numbered t these n same) sifted

  within : IsWithinLimits (schema_with t these)
  within = record {
    resolutions = few;
    options_few = subst (λ (l : List ChoiceOption). length l ≤ MOST_OPTIONS) (same_options t these n same) counted.few;
    light = subst (λ (l : List ChoiceOption). bulk_of l ≤ GREATEST_BULK) (same_options t these n same) counted.light;
  }

  pub refused_by : (r : Result Compilation CompileRefusal) → IfErr r (λ e. (sieve.kept.items ≡ []) × (e ≡ Inconsistent sieve.dropped)) → IfErr r (IsRefused (schema_with t these))
  refused_by (Ok c) h = h
  refused_by (Err e) (none, is) =
      subst (IsRefused (schema_with t these)) (sym is) (
        within,
        (
          none_consistent (schema_with t these) f sieve.kept.items sieve.dropped.items all_sifted none,
          all_told (schema_with t these) f sieve.kept.items sieve.dropped.items all_sifted none,
        ),
      )

  pub compiled_by : (r : Result Compilation CompileRefusal) → IfOk r (λ c. (sieve.kept.items ≢ []) × (c.plans ≡ sieve.kept.items) ×
      (c.counts ≡ record { resolutions = count_in (named_tree t these); options = tally.options; bulk = tally.bulk; live = length sieve.kept.items })) →
      IfOk r (IsCompiled (schema_with t these))
  compiled_by (Err e) h = h
  compiled_by (Ok c) (some, plans, counts) = record {
    within = within;
    consistent = consistent_plans (schema_with t these) f sieve.kept.items sieve.dropped.items all_sifted sieve.kept.items refl some;
    plans = subst (λ (l : List Sampled). AreJustThose HasExecution (folded_options (schema_with t these)) (options_of l)) (sym plans)
        (plans_are (schema_with t these) f sieve.kept.items sieve.dropped.items all_sifted);
    resolutions = ap (λ (x : Counts). x.resolutions) counts;
    options_counted = ap (λ (x : Counts). x.options) counts ∙ counted.options ∙ ap (λ (l : List ChoiceOption). length l) (same_options t these n same);
    bulk_counted = ap (λ (x : Counts). x.bulk) counts ∙ counted.bulk ∙ ap bulk_of (same_options t these n same);
  }

  -- the rows of the choices that stay serve each plan
  pub all_shared : (folds : List Fold) (rows : List FoldRow) → AreSpansOf (staying_choices (is_named (schema_with t these)) t.process) folds →
      ((apart : ℕ → Bool) (g q : Process) → AreDistinct (leaves g) → AreSpansOf (staying_choices apart g) folds → q ∈ folded_resolutions apart g → AreFoldRows q rows) →
      AreShared rows sieve.kept.items
  all_shared folds rows spans serve = served sieve.kept.items (λ s m.
      let w = schema_with t these in
      let kept = kept_has (folded_options w) (options_of sieve.kept.items) (plans_are w f sieve.kept.items sieve.dropped.items all_sifted) (option_of s.plan)
      (mem-map (λ (x : Sampled). option_of x.plan) s sieve.kept.items m) in
      serve (is_named w) t.process s.plan.process (distinct_leaves w f) spans (folded_option_parts (is_named w) w (option_of s.plan) kept.0).0)
    where
      served : (plans : List Sampled) → ((s : Sampled) → s ∈ plans → AreFoldRows s.plan.process rows) → AreShared rows plans
      served [] each = All-nil (λ (s : Sampled). AreFoldRows s.plan.process rows)
      served (s ∷ plans) each =
          All-cons (λ (x : Sampled). AreFoldRows x.plan.process rows) s plans (each s (inl refl)) (served plans (λ x m. each x (inr m)))

-- vectors with nothing in them

pub is_not_empty : {A : Type 0} (xs : List A) (n : ℕ) → n ≡ length xs → (n == 0) ≡ false → xs ≢ []
is_not_empty xs n e t f = true≢false (sym (eq-eqb n 0 (e ∙ ap length f)) ∙ t)
