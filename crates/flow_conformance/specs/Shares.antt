-- What workers find, each sequence by whoever took it.
use Rattle.std.specs.Prelude.{◌≡◌, ℕ, List, length, Option, Some, Ok, Result, slice_get}
use Rattle.std.proofs.Common.{Vec, Global}
use Rattle.std.specs.declared.alloc.AllocError.{AllocError}
use Rattle.flow_conformance.specs.declared.judge.Verdict.{Verdict}
use Rattle.flow_conformance.specs.declared.cause.Finding.{Finding}

-- a place for each sequence, and what stands there is found of it
pub record IsShare (Judges : List ℕ → Verdict → Type 0) (sequences : List (Vec ℕ Global)) (share : List (Option Finding)) : Type 0 where
  pub places : length share ≡ length sequences
  pub each : (place : ℕ) (events : Vec ℕ Global) (finding : Finding) → slice_get sequences place ≡ Some events → slice_get share place ≡ Some (Some finding) →
      Judges events.items finding.verdict

-- what the workers give
abbrev pub Shares : Type 0
Shares = List (Result (Vec (Option Finding) Global) AllocError)

-- of each that had memory
abbrev pub AreShares : (List ℕ → Verdict → Type 0) → List (Vec ℕ Global) → Shares → Type 0
AreShares Judges sequences shares =
    (worker : ℕ) (share : Vec (Option Finding) Global) → slice_get shares worker ≡ Some (Ok share) → IsShare Judges sequences share.items

-- some worker found that of the sequence
pub record IsInShare (shares : Shares) (place : ℕ) (finding : Finding) : Type 0 where
  pub worker : ℕ
  pub share : Vec (Option Finding) Global
  pub of_worker : slice_get shares worker ≡ Some (Ok share)
  pub found : slice_get share.items place ≡ Some (Some finding)
