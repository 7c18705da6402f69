-- The sums of a log are the numbers of its cases, of its sequences, and of the cases of each standing.
use Rattle.std.specs.Prelude.{◌≡◌, length, count_by}
use Rattle.flow_conformance.specs.declared.sums.Sums.{Sums}
use Rattle.flow_conformance.specs.declared.sums.Standing.TheVariants.{Execution, Front, Deviates, Unknown, Undecided}
use Rattle.flow_conformance.specs.declared.findings.Findings.{Findings}
use Rattle.flow_conformance.specs.Judged.{stands}

pub record AreSums (found : Findings) (sums : Sums) : Type 0 where
  pub cases : sums.cases ≡ length found.cases.of_cases.items
  pub sequences : sums.sequences ≡ length found.of_sequences.items
  pub execution : sums.execution ≡ count_by (stands found.of_sequences.items Execution) found.cases.of_cases.items
  pub front : sums.front ≡ count_by (stands found.of_sequences.items Front) found.cases.of_cases.items
  pub deviates : sums.deviates ≡ count_by (stands found.of_sequences.items Deviates) found.cases.of_cases.items
  pub unknown : sums.unknown ≡ count_by (stands found.of_sequences.items Unknown) found.cases.of_cases.items
  pub undecided : sums.undecided ≡ count_by (stands found.of_sequences.items Undecided) found.cases.of_cases.items
