-- A goal whose choices all stay, the list of its leaves, and those of them that stand outside choices.
use Rattle.std.specs.Prelude.{◌≡◌, ℕ, List}
use Rattle.std.specs.List.Sorted.{IsStrictlyIncreasing}
use Rattle.std.proofs.Common.{refl}
use Rattle.std.specs.Coded.{Coded, code_by, coded×, coded_ℕ, coded_list}
use Rattle.flow_model.specs.Process.{Process}
use Rattle.flow_model.specs.Process as process
use Rattle.flow_model.specs.Stored.{process_code}
use Rattle.flow_model.specs.Folding.{IsFolded, fixed_leaves}

pub record Resolved : Type 0 where
  pub process : Process
  pub leaves : List ℕ
  pub fixed : List ℕ

abbrev pub resolved_code : Coded Resolved
resolved_code = code_by (Process × (List ℕ × List ℕ)) (coded× process_code (coded× (coded_list coded_ℕ) (coded_list coded_ℕ)))
    (λ r. (r.process, (r.leaves, r.fixed))) (λ p. record { process = p.0; leaves = p.1.0; fixed = p.1.1 }) (λ _. refl)

-- each choice that is left may stay, the first list is that of the leaves from left to right, which rise, and the second
-- that of the leaves outside choices
pub record IsResolved (r : Resolved) : Type 0 where
  pub folded : IsFolded r.process
  pub listed : r.leaves ≡ process.leaves r.process
  pub rising : IsStrictlyIncreasing r.leaves
  pub fixed_are : r.fixed ≡ fixed_leaves r.process
