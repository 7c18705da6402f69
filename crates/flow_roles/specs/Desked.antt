-- A run whose tasks are taken under a policy, as its callers see it.
use Rattle.std.specs.Prelude.{List}
use Rattle.std.proofs.Common.{refl}
use Rattle.std.specs.Coded.{Coded, code_by, coded×}
use Rattle.flow_model.specs.declared.history.Entry.{Entry}
use Rattle.flow_model.specs.Lists.{Begins}
use Rattle.flow_model.specs.Run.{state_of}
use Rattle.flow_model.specs.Takers.{takings_of}
use Rattle.flow_model.specs.Duties.{DutiesHold}
use Rattle.flow_core.specs.Run.{Run, run_code, schema}
use Rattle.flow_policy.specs.Assigned.{Assigned, assigned_code}

pub record Desked : Type 0 where
  pub run : Run
  pub assigned : Assigned

abbrev pub desked_code : Coded Desked
desked_code = code_by (Run × Assigned) (coded× run_code assigned_code)
    (λ d. (d.run, d.assigned)) (λ p. record { run = p.0; assigned = p.1 }) (λ _. refl)

-- duties hold after every step
abbrev pub KeepsDuties : Desked → Type 0
KeepsDuties d = (front : List Entry) → Begins d.run.history front →
    DutiesHold (schema d.run) d.assigned.duties (state_of (schema d.run) front) (takings_of front)
