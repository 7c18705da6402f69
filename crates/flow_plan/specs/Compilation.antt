-- What a workflow is compiled to: the plans of its options that have an execution.
use Rattle.std.specs.Prelude.{◌≡◌, ◌≢◌, ◌≤◌, List, [], length, All}
use Rattle.std.proofs.Common.{refl}
use Rattle.std.specs.Coded.{Coded, code_by, coded×, coded_list}
use Rattle.flow_model.specs.declared.limits.TheConstants.{GREATEST_BULK, MOST_OPTIONS, MOST_RESOLUTIONS}
use Rattle.flow_model.specs.Lists.{Each}
use Rattle.flow_model.specs.Schema.{Schema}
use Rattle.flow_model.specs.Folding.{folded_bulk, folded_count, folded_options, is_named}
use Rattle.flow_laws.specs.WellFormed.{IsConsistent}
use Rattle.flow_plan.specs.declared.counts.Counts.{Counts}
use Rattle.flow_plan.specs.contracts.counts.Counts as counts
use Rattle.flow_plan.specs.declared.fold_row.FoldRow.{FoldRow}
use Rattle.flow_plan.specs.contracts.fold_row.FoldRow as fold_row
use Rattle.flow_plan.specs.FoldRows.{AreFoldRows}
use Rattle.flow_plan.specs.Planned.{AreNumbered}
use Rattle.flow_plan.specs.Sampled.{Sampled, sampled_code}
use Rattle.flow_plan.specs.Options.{options_of, HasExecution, HasSmallLeaves, AreJustThose}

pub record Compilation : Type 0 where
  pub plans : List Sampled
  pub counts : Counts
  -- the choices that stay, as rows
  pub folds : List FoldRow

abbrev pub compilation_code : Coded Compilation
compilation_code = code_by (List Sampled × (Counts × List FoldRow)) (coded× (coded_list sampled_code) (coded× counts.the_row.coded (coded_list fold_row.the_row.coded)))
    (λ c. (c.plans, (c.counts, c.folds))) (λ t. record { plans = t.0; counts = t.1.0; folds = t.1.1 }) (λ _. refl)

abbrev pub compilation : List Sampled → Counts → List FoldRow → Compilation
compilation plans counts folds = record { plans = plans; counts = counts; folds = folds }

-- the rows serve each of the plans
abbrev pub AreShared : List FoldRow → List Sampled → Type 0
AreShared folds plans = All (λ (s : Sampled). AreFoldRows s.plan.process folds) plans

-- there is a plan, they are counted, their leaves have places in rows, the token with number k of each is the one at place k,
-- and the rows of choices serve each
pub record IsLive (c : Compilation) : Type 0 where
  pub some : c.plans ≢ []
  pub live : c.counts.live ≡ length c.plans
  pub small : Each HasSmallLeaves (options_of c.plans)
  pub numbered : All (λ (s : Sampled). AreNumbered s.plan.tokens) c.plans
  pub shared : AreShared c.folds c.plans

-- resolutions, options and bulk are within the limits
pub record IsWithinLimits (w : Schema) : Type 0 where
  pub resolutions : folded_count (is_named w) w.goal ≤ MOST_RESOLUTIONS
  pub options_few : length (folded_options w) ≤ MOST_OPTIONS
  pub light : folded_bulk w ≤ GREATEST_BULK

-- the plans of the options that have an execution, and how large the workflow is
pub record IsCompiled (w : Schema) (c : Compilation) : Type 0 where
  pub within : IsWithinLimits w
  pub consistent : IsConsistent w
  pub plans : AreJustThose HasExecution (folded_options w) (options_of c.plans)
  pub resolutions : c.counts.resolutions ≡ folded_count (is_named w) w.goal
  pub options_counted : c.counts.options ≡ length (folded_options w)
  pub bulk_counted : c.counts.bulk ≡ folded_bulk w
