-- The run of a case under a policy, as its callers see it.
use Rattle.std.proofs.Common.{refl}
use Rattle.std.specs.Coded.{Coded, code_by, coded×}
use Rattle.flow_model.specs.declared.history.Entry.{Entry}
use Rattle.flow_core.specs.Run.{schema, now}
use Rattle.flow_roles.specs.Desked.{Desked, desked_code}
use Rattle.flow_case.specs.Rules.{Rules, rules_code, IsLet}

pub record Ruled : Type 0 where
  pub desk : Desked
  pub rules : Rules

abbrev pub ruled_code : Coded Ruled
ruled_code = code_by (Desked × Rules) (coded× desked_code rules_code) (λ c. (c.desk, c.rules)) (λ p. record { desk = p.0; rules = p.1 }) (λ _. refl)

-- the rules let the entry's caller make it next
abbrev pub MayLet : Ruled → Entry → Type 0
MayLet c entry = IsLet (schema c.desk.run) c.rules (now c.desk.run) entry.by entry.step
