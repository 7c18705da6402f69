-- What is found of sequences, one finding for each, in order; and how many cases have which standing.
use Rattle.std.specs.Prelude.{◌≡◌, ℕ, Bool, true, false, List, length, Some, None, Option, slice_get}
use Rattle.std.proofs.Common.{Vec, Global}
use Rattle.flow_conformance.specs.declared.judge.Verdict.{Verdict}
use Rattle.flow_conformance.specs.declared.judge.Verdict.TheVariants as verdict
use Rattle.flow_conformance.specs.declared.sums.Standing.{Standing}
use Rattle.flow_conformance.specs.declared.sums.Standing.TheVariants as standing
use Rattle.flow_conformance.specs.declared.cause.Finding.{Finding}

pub record AreFindings (Judges : List ℕ → Verdict → Type 0) (sequences : List (Vec ℕ Global)) (found : List Finding) : Type 0 where
  pub count : length found ≡ length sequences
  pub each : (i : ℕ) (events : Vec ℕ Global) (finding : Finding) → slice_get sequences i ≡ Some events → slice_get found i ≡ Some finding →
      Judges events.items finding.verdict

-- a verdict without its place
abbrev pub standing_of : Verdict → Standing
standing_of verdict.Execution = standing.Execution
standing_of verdict.Front = standing.Front
standing_of (verdict.Deviates at) = standing.Deviates
standing_of (verdict.Unknown at) = standing.Unknown
standing_of verdict.Undecided = standing.Undecided

abbrev pub same_standing : Standing → Standing → Bool
same_standing standing.Execution standing.Execution = true
same_standing standing.Front standing.Front = true
same_standing standing.Deviates standing.Deviates = true
same_standing standing.Unknown standing.Unknown = true
same_standing standing.Undecided standing.Undecided = true
same_standing _ _ = false

abbrev pub finding_stands : Option Finding → Standing → Bool
finding_stands None wanted = false
finding_stands (Some f) wanted = same_standing (standing_of f.verdict) wanted

-- whether the sequence of that number has that standing
abbrev pub stands : List Finding → Standing → ℕ → Bool
stands found wanted sequence = finding_stands (slice_get found sequence) wanted
