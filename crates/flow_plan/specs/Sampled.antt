-- A plan with an execution of it.
use Rattle.std.specs.Prelude.{ℕ, List}
use Rattle.std.proofs.Common.{refl}
use Rattle.std.specs.Coded.{Coded, code_by, coded×, coded_ℕ, coded_list}
use Rattle.flow_model.specs.Lists.{AreInOrder}
use Rattle.flow_model.specs.Trace.{Trace}
use Rattle.flow_plan.specs.Planned.{Planned, planned_code, pairs_of}

pub record Sampled : Type 0 where
  pub plan : Planned
  pub sample : List ℕ

abbrev pub sampled_code : Coded Sampled
sampled_code = code_by (Planned × List ℕ) (coded× planned_code (coded_list coded_ℕ))
    (λ s. (s.plan, s.sample)) (λ t. record { plan = t.0; sample = t.1 }) (λ _. refl)

abbrev pub sampled : Planned → List ℕ → Sampled
sampled plan sample = record { plan = plan; sample = sample }

-- the sample is an execution of the goal in which the pair of each token stands in order
pub record IsTraceOf (s : Sampled) : Type 0 where
  pub trace : Trace s.plan.process s.sample
  pub in_order : AreInOrder (pairs_of s.plan.tokens) s.sample
