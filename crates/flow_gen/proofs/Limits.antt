-- No count of a generated workflow is past its limit.
use Rattle.std.proofs.Common.{◌≡◌, ℕ, ◌+◌, ◌-◌, ◌*◌, ◌^◌, ◌%◌, ◌==◌, ◌≤◌, nat_lt, Bool, List, [], ◌∷◌, length, map, sum, take, refl, sym, ap, subst, ◌∙◌, arith}
use Rattle.std.proofs.Math.Nat.{mul-le-mul_right}
use Rattle.std.proofs.Math.Pow.{pow_mono}
use Rattle.std.proofs.lemmas.Bool.{cases_Bool, ltb-true}
use Rattle.flow_model.specs.declared.limits.TheConstants.{GREATEST_SIZE}
use Rattle.flow_model.specs.Lists.{◌∈◌, numbers_from}
use Rattle.flow_model.specs.Process.{Process, leaves}
use Rattle.flow_model.specs.Constraint.{all_of}
use Rattle.flow_model.specs.Folding.{fixed_leaves, folded_bulk, folded_count, folded_resolutions, folded_ways, is_named}
use Rattle.flow_model.specs.Resolution.{resolutions, resolution_count, ways_in, bulk}
use Rattle.flow_model.specs.Ways.{ways_of}
use Rattle.flow_model.proofs.MadeLists.{length-numbers_from}
use Rattle.flow_model.specs.Schema.{Schema}
use Rattle.flow_laws.specs.WellFormed.{IsConsistent}
use Rattle.flow_laws.proofs.ResolutionsLemmas.{resolves_of, length-resolutions}
use Rattle.flow_laws.proofs.FoldingLemmas.{folds_to, length-folded}
use Rattle.flow_goal.proofs.Rising.{Rises, resolution_rises}
use Rattle.flow_workflow.specs.Definition.{Definition, schema_of}
use Rattle.flow_expand.specs.Numbers.{numbered}
use Rattle.flow_expand.specs.Workflows.{IsExpanded, definition_of}
use Rattle.flow_excise.specs.declared.refusal.CompileRefusal.{CompileRefusal}
use Rattle.flow_excise.specs.declared.refusal.CompileRefusal.TheVariants as compile
use Rattle.flow_excise.specs.Compilation.{IsRefused}
use Rattle.flow_plan.specs.Compilation.{IsWithinLimits}
use Rattle.flow_excise.specs.Options.{schema_with}
use Rattle.flow_gen.specs.Generated.{choices_in, kind, all_draws, kinds, generated}
use Rattle.flow_gen.specs.Laws.{choice_count, ChoicesAreFew, ChoicesDouble, ChoicesTakeFour, WaysAreSingle, OptionsAreResolutions, BulkIsSmall, WorkflowsAreWithinLimits, CompilingIsNotRefused, CompilingPartsIsNotRefused}
use Rattle.flow_gen.proofs.Rows.{choices_more}
use Rattle.flow_gen.proofs.Expanded.{expansion, row, leaves_are, the_definition}
use Rattle.flow_gen.proofs.FoldedGoals.{fewer_leaves, fewer_resolutions}
use Rattle.flow_gen.proofs.Consistent.{workflows_are_consistent}
use Rattle.flow_gen.proofs.Precedences.{rules_are, few_rules, IsOneWay, one_way, AreSingle, are_single}

-- Choices

kinds_choose : (choices : ℕ) (ds : List ℕ) → choices ≤ 6 → choices + sum (map choices_in (kinds choices ds)) ≤ 6
kinds_choose choices [] h = omega (arith, h)
kinds_choose choices (d ∷ ds) h =
    let k = kind choices d in
    let fits : choices + choices_in (kind choices d) ≤ 6 =
    grind (arith, h, cases_Bool (d % 4 == 0), cases_Bool (d % 4 == 1), cases_Bool (d % 4 == 2), cases_Bool (nat_lt choices 6), ltb-true choices 6) in
    omega (arith, choices_more k (kinds (choices + choices_in k) ds), kinds_choose (choices + choices_in k) ds fits)

pub choices_are_few : ChoicesAreFew
choices_are_few seed size = omega (arith, kinds_choose 0 (take size (all_draws seed size)) (omega arith))

pub choices_double : ChoicesDouble
choices_double seed size w some few h =
    ap (λ (v : Definition). resolution_count v.tree.process) (the_definition seed size some few w h) ∙ (row seed size some few).resolutions 0

pub choices_take_four : ChoicesTakeFour
choices_take_four seed size w some few h q m =
    (row seed size some few).taken 0 q
    (resolves_of (numbered 0 (expansion seed size some few)) q (subst (λ (v : Definition). q ∈ resolutions v.tree.process) (the_definition seed size some few w h) m))

-- Ways

its_way : (seed size : ℕ) (w : Definition) → 1 ≤ size → size ≤ GREATEST_SIZE → IsExpanded (generated seed size) w → (ls : List ℕ) →
    IsOneWay (size - 1) (ways_of (all_of w.rules) w.tree.labels ls)
its_way seed size w some few h ls =
    let v = definition_of (generated seed size) (expansion seed size some few) in
    let one : IsOneWay (length v.rules) (ways_of (all_of v.rules) v.tree.labels ls) = one_way v.rules v.tree.labels ls (rules_are seed size some few) in
    subst (λ (v : Definition). IsOneWay (size - 1) (ways_of (all_of v.rules) v.tree.labels ls)) (sym (the_definition seed size some few w h))
    (record { way = one.way; only = one.only; pairs = omega (arith, one.pairs, few_rules seed size) })

pub ways_are_single : WaysAreSingle
ways_are_single seed size w some few h q m = ap (λ (ws : List (List (ℕ × ℕ))). length ws) (its_way seed size w some few h (leaves q)).only

-- Options

rises_length : (low high : ℕ) (xs : List ℕ) → Rises low xs high → low + length xs ≤ high
rises_length low high [] h = omega (arith, h)
rises_length low high (x ∷ xs) h = omega (arith, h.0, rises_length (x + 1) high xs h.1)

in_row : (seed size : ℕ) (w : Definition) → 1 ≤ size → size ≤ GREATEST_SIZE → IsExpanded (generated seed size) w → leaves w.tree.process ≡ numbers_from 0 (8 * size)
in_row seed size w some few h = ap (λ (v : Definition). leaves v.tree.process) (the_definition seed size some few w h) ∙ leaves_are seed size some few

single : (seed size : ℕ) (w : Definition) → 1 ≤ size → size ≤ GREATEST_SIZE → IsExpanded (generated seed size) w →
    AreSingle (ways_in (schema_of w)) (resolutions w.tree.process) (8 * size + (size - 1))
single seed size w some few h = are_single (ways_in (schema_of w)) (resolutions w.tree.process) (8 * size) (size - 1) few_leaves (λ q. its_way seed size w some few h (leaves q))
  where
    few_leaves : (q : Process) → q ∈ resolutions w.tree.process → length (leaves q) ≤ 8 * size
    few_leaves q m =
        omega (arith, rises_length 0 (0 + 8 * size) (leaves q) (resolution_rises w.tree.process q 0 (8 * size) (in_row seed size w some few h) (resolves_of w.tree.process q m)))

-- where choices stay

folded_single : (seed size : ℕ) (w : Definition) → 1 ≤ size → size ≤ GREATEST_SIZE → IsExpanded (generated seed size) w →
    AreSingle (folded_ways (schema_of w)) (folded_resolutions (is_named (schema_of w)) w.tree.process) (8 * size + (size - 1))
folded_single seed size w some few h =
    are_single (folded_ways (schema_of w)) (folded_resolutions (is_named (schema_of w)) w.tree.process) (8 * size) (size - 1) few_leaves (λ q. its_way seed size w some few h (fixed_leaves q))
  where
    few_leaves : (q : Process) → q ∈ folded_resolutions (is_named (schema_of w)) w.tree.process → length (leaves q) ≤ 8 * size
    few_leaves q m =
        let fewer = fewer_leaves (is_named (schema_of w)) w.tree.process q (folds_to (is_named (schema_of w)) w.tree.process q m) in
        omega (arith, fewer, ap length (in_row seed size w some few h), length-numbers_from 0 (8 * size))

pub options_are_resolutions : OptionsAreResolutions
options_are_resolutions seed size w some few h = (single seed size w some few h).count ∙ length-resolutions w.tree.process

pub bulk_is_small : BulkIsSmall
bulk_is_small seed size w some few h =
    subst (λ n. bulk (schema_of w) ≤ n * (8 * size + (size - 1))) (length-resolutions w.tree.process) (single seed size w some few h).size

pub workflows_are_within_limits : WorkflowsAreWithinLimits
workflows_are_within_limits seed size w some few h =
    let apart : ℕ → Bool = is_named (schema_of w) in
    let sixth : 2 ^ choice_count seed size ≤ 2 ^ 6 = pow_mono (choices_are_few seed size) in
    let many : folded_count apart w.tree.process ≤ 64 = omega (arith, choices_double seed size w some few h, fewer_resolutions apart w.tree.process, sixth) in
    let each = folded_single seed size w some few h in
    let long = length-folded apart w.tree.process in
    let product : folded_count apart w.tree.process * (8 * size + (size - 1)) ≤ 64 * (8 * size + (size - 1)) = mul-le-mul_right (8 * size + (size - 1)) many in
    let size_is : folded_bulk (schema_of w) ≤ folded_count apart w.tree.process * (8 * size + (size - 1)) =
    subst (λ n. folded_bulk (schema_of w) ≤ n * (8 * size + (size - 1))) long each.size in
    record {
      resolutions = omega (arith, many);
      options_few = omega (arith, many, each.count, long);
      light = omega (arith, size_is, product, few);
    }

-- Refusals

not_refused : (w : Schema) (r : CompileRefusal) → IsWithinLimits w → IsConsistent w → IsRefused w r → r ≡ compile.NoMemory
not_refused w (compile.TooManyChoices count) within consistent h = absurd (omega (arith, h.0, within.resolutions))
not_refused w (compile.TooManyWays count) within consistent h = absurd (omega (arith, h.1.0, within.options_few))
not_refused w (compile.TooBulky count) within consistent h = absurd (omega (arith, h.1.1.0, within.light))
not_refused w (compile.Inconsistent dropped) within consistent h = absurd (h.1.0 consistent)
not_refused w compile.NoMemory within consistent h = refl

pub compiling_is_not_refused : CompilingIsNotRefused
compiling_is_not_refused seed size w r some few h =
    not_refused (schema_of w) r (workflows_are_within_limits seed size w some few h) (workflows_are_consistent seed size w some few h)

pub compiling_parts_is_not_refused : CompilingPartsIsNotRefused
compiling_parts_is_not_refused seed size w r some few h =
    let whole = workflows_are_within_limits seed size w some few h in
    let within : IsWithinLimits (schema_with w.tree w.rules) = record { resolutions = whole.resolutions; options_few = whole.options_few; light = whole.light } in
    not_refused (schema_with w.tree w.rules) r within (workflows_are_consistent seed size w some few h)
