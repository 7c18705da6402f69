-- What a policy assigns to whom.
use Rattle.std.specs.Prelude.{ℕ, List}
use Rattle.std.proofs.Common.{refl}
use Rattle.std.specs.Coded.{Coded, code_by, coded×, coded_ℕ, coded_list}
use Rattle.flow_model.specs.Duties.{Duties}

pub record Assigned : Type 0 where
  -- the names of the users; the first has the number 1
  pub users : List (List ℕ)
  -- with users and events by their numbers, and roles by theirs
  pub duties : Duties

abbrev pairs_code : Coded (List (ℕ × ℕ))
pairs_code = coded_list (coded× coded_ℕ coded_ℕ)

abbrev pub duties_code : Coded Duties
duties_code =
    code_by (List (ℕ × ℕ) × (List (ℕ × ℕ) × (List (ℕ × ℕ) × List (ℕ × ℕ))))
    (coded× pairs_code (coded× pairs_code (coded× pairs_code pairs_code)))
    (λ d. (d.members, (d.allowed, (d.separate, d.bound))))
    (λ p. record { members = p.0; allowed = p.1.0; separate = p.1.1.0; bound = p.1.1.1 })
    (λ _. refl)

abbrev pub assigned_code : Coded Assigned
assigned_code =
    code_by (List (List ℕ) × Duties) (coded× (coded_list (coded_list coded_ℕ)) duties_code)
    (λ a. (a.users, a.duties)) (λ p. record { users = p.0; duties = p.1 }) (λ _. refl)
