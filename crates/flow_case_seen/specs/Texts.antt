-- The texts that cases share.
use Rattle.std.specs.Prelude.{◌≡◌, ℕ, List, [], length, Option, None, Some}
use Rattle.std.proofs.Common.{Vec, Global, refl}
use Rattle.std.specs.Coded.{Coded, code_by, coded×, coded_ℕ, coded_list, coded_option}
use Rattle.std.specs.Option.{option_map, unwrap_or}
use Rattle.flow_form.specs.Script.{Said}
use Rattle.flow_form.specs.Names.{IsClosed}
use Rattle.flow_text.specs.Saying.{Says}
use Rattle.flow_trail.specs.declared.line.TrailEnd.{TrailEnd}
use Rattle.flow_trail.specs.Due.{first_end}
use Rattle.flow_case.specs.declared.case_run.CaseRun.{CaseRun}
use Rattle.flow_case_begin.specs.Begun.{IsBegun}

-- the texts, as callers see them
pub record Shared : Type 0 where
  pub workflow : List ℕ
  pub policy : Option (List ℕ)
  -- the names of the users, where there is a policy; the first has the number 1
  pub users : Option (List (List ℕ))

abbrev text_code : Coded (List ℕ)
text_code = coded_list coded_ℕ

abbrev pub shared_code : Coded Shared
shared_code =
    code_by (List ℕ × (Option (List ℕ) × Option (List (List ℕ))))
    (coded× text_code (coded× (coded_option text_code) (coded_option (coded_list text_code))))
    (λ t. (t.workflow, (t.policy, t.users))) (λ p. record { workflow = p.0; policy = p.1.0; users = p.1.1 }) (λ _. refl)

-- the bytes, where there are such
abbrev pub bytes_in : Option (Vec ℕ Global) → Option (List ℕ)
bytes_in bytes = option_map (λ v. v.items) bytes

-- how many users a policy names, if there is one
abbrev pub count_of : Option (List (List ℕ)) → ℕ
count_of None = 0
count_of (Some users) = length users

-- where the trail of a case of these texts begins
abbrev pub start_of : Shared → TrailEnd
start_of t = first_end t.workflow (unwrap_or t.policy [])

-- the workflow's text says this, and the texts have a case
pub record AreRead (t : Shared) (s : Said) (start : TrailEnd) : Type 0 where
  pub says : Says t.workflow s
  pub closed : IsClosed s
  pub begun : CaseRun
  pub is_begun : IsBegun s t.policy begun
  pub starts : start ≡ start_of t
