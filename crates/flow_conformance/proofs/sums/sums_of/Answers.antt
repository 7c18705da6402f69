use Rattle.std.proofs.Common.{◌≡◌, ℕ, List, length, count_by, ap, ◌∙◌}
use Rattle.flow_conformance.specs.declared.cause.Finding.{Finding}
use Rattle.flow_conformance.specs.declared.sums.Standing.{Standing}
use Rattle.flow_conformance.specs.Judged.{stands}
use Rattle.flow_conformance.proofs.sums.sums_of.Goals as goal

counted : (wanted : Standing) (read found : List Finding) (read_cases of_cases : List ℕ) (n : ℕ) → read ≡ found → read_cases ≡ of_cases →
    n ≡ count_by (stands read wanted) read_cases → n ≡ count_by (stands found wanted) of_cases
counted wanted read found read_cases of_cases n same same_cases is =
    is ∙ ap (λ (fs : List Finding). count_by (stands fs wanted) read_cases) same ∙ ap (λ (cs : List ℕ). count_by (stands found wanted) cs) same_cases

pub returns : goal.returns
returns c =
    let cases = c.as_slice-of_cases.ensures.value in
    let findings = c.as_slice-findings.ensures.value in
    record {
      cases = ap length cases;
      sequences = ap length findings;
      execution = counted _ _ _ _ _ _ findings cases c.count_of.ensures;
      front = counted _ _ _ _ _ _ findings cases c.count_of-2.ensures;
      deviates = counted _ _ _ _ _ _ findings cases c.count_of-3.ensures;
      unknown = counted _ _ _ _ _ _ findings cases c.count_of-4.ensures;
      undecided = counted _ _ _ _ _ _ findings cases c.count_of-5.ensures;
    }
