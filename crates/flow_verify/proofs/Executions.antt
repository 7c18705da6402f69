-- Executions that come with plans.
use Rattle.std.proofs.Common.{◌≡◌, ◌≢◌, ℕ, List, [], ◌∷◌, get_or, refl, ap, inl}
use Rattle.flow_model.specs.Lists.{◌∈◌}
use Rattle.flow_model.specs.Folding.{folded_options, is_named}
use Rattle.flow_model.specs.Resolution.{ChoiceOption, OptionTrace}
use Rattle.flow_model.specs.Schema.{Schema, IsGood}
use Rattle.flow_laws.specs.WellFormed.{IsWellFormed}
use Rattle.flow_fold_laws.proofs.UnfoldedOptions.{folded_option_trace_is_good}
use Rattle.flow_plan.specs.Sampled.{Sampled}
use Rattle.flow_plan.specs.Options.{option_of, options_of}
use Rattle.flow_plan.specs.Compilation.{Compilation, IsCompiled}
use Rattle.flow_plan.proofs.KeptOptions.{kept_has}

-- the option of the first plan is among those of the plans
pub first_option : (plans : List Sampled) (s : Sampled) → plans ≢ [] → s ≡ get_or plans 0 s → option_of s.plan ∈ options_of plans
first_option [] s some e = absurd (some refl)
first_option (p ∷ plans) s some e = inl (ap (λ (x : Sampled). option_of x.plan) e)

-- an execution of the option of a plan meets every constraint
pub plan_trace_is_good : (w : Schema) (c : Compilation) (t : List ℕ) → IsWellFormed w → IsCompiled w c →
    ((o : ChoiceOption) × (o ∈ options_of c.plans) × OptionTrace o t) → IsGood w t
plan_trace_is_good w c t f k (o, m, h) =
    folded_option_trace_is_good (is_named w) w f (λ n named. named) t o (kept_has (folded_options w) (options_of c.plans) k.plans o m).0 h
