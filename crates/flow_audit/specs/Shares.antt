-- What workers find, each piece by whoever took it.
use Rattle.std.specs.Prelude.{◌≡◌, ℕ, List, length, Option, Some, Ok, Result, slice_get}
use Rattle.std.proofs.Common.{Vec, Global}
use Rattle.std.specs.declared.alloc.AllocError.{AllocError}
use Rattle.flow_audit.specs.declared.finding.Finding.{Finding}
use Rattle.flow_audit.specs.Cuts.{piece}

-- a place for each piece, and what stands there is found of it
pub record IsShare (Finds : List ℕ → Finding → Type 0) (text : List ℕ) (cuts : List (ℕ × ℕ)) (share : List (Option Finding)) : Type 0 where
  pub places : length share ≡ length cuts
  pub each : (place : ℕ) (cut : ℕ × ℕ) (finding : Finding) → slice_get cuts place ≡ Some cut → slice_get share place ≡ Some (Some finding) →
      Finds (piece text cut) finding

-- what the workers give
abbrev pub Shares : Type 0
Shares = List (Result (Vec (Option Finding) Global) AllocError)

-- of each that had memory
abbrev pub AreShares : (List ℕ → Finding → Type 0) → List ℕ → List (ℕ × ℕ) → Shares → Type 0
AreShares Finds text cuts shares =
    (worker : ℕ) (share : Vec (Option Finding) Global) → slice_get shares worker ≡ Some (Ok share) → IsShare Finds text cuts share.items

-- some worker found that of the piece
pub record IsInShare (shares : Shares) (place : ℕ) (finding : Finding) : Type 0 where
  pub worker : ℕ
  pub share : Vec (Option Finding) Global
  pub of_worker : slice_get shares worker ≡ Some (Ok share)
  pub found : slice_get share.items place ≡ Some (Some finding)
