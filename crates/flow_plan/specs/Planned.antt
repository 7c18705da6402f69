-- A plan as its callers see it: a goal whose choices all stay, its leaves, and orders of leaves.
use Rattle.std.specs.Prelude.{◌≡◌, ℕ, List, length, map}
use Rattle.std.proofs.Common.{refl}
use Rattle.std.specs.Coded.{Coded, code_by, coded×, coded_ℕ, coded_list}
use Rattle.flow_model.specs.Lists.{numbers_from}
use Rattle.flow_model.specs.Process.{Process}
use Rattle.flow_model.specs.Stored.{process_code}
use Rattle.flow_goal.specs.Resolved.{Resolved}
use Rattle.flow_plan.specs.declared.token.OrderToken.{OrderToken}
use Rattle.flow_plan.specs.contracts.token.OrderToken as token

pub record Planned : Type 0 where
  pub process : Process
  pub leaves : List ℕ
  pub tokens : List OrderToken

abbrev pub planned_code : Coded Planned
planned_code = code_by (Process × (List ℕ × List OrderToken)) (coded× process_code (coded× (coded_list coded_ℕ) (coded_list token.the_row.coded)))
    (λ p. (p.process, (p.leaves, p.tokens))) (λ t. record { process = t.0; leaves = t.1.0; tokens = t.1.1 }) (λ _. refl)

abbrev pub planned : Resolved → List OrderToken → Planned
planned goal tokens = record { process = goal.process; leaves = goal.leaves; tokens = tokens }

-- the pair of sender and receiver of each token
abbrev pub pairs_of : List OrderToken → List (ℕ × ℕ)
pairs_of tokens = map (λ (t : OrderToken). (t.sender, t.receiver)) tokens

abbrev pub token_numbers : List OrderToken → List ℕ
token_numbers tokens = map (λ (t : OrderToken). t.number) tokens

-- the token with number k is the one at place k
abbrev pub AreNumbered : List OrderToken → Type 0
AreNumbered tokens = token_numbers tokens ≡ numbers_from 0 (length tokens)
