-- Which claims a new epoch spares.
use Rattle.std.specs.Prelude.{◌≡◌, ℕ, ◌+◌, Bool, ◌&&◌, if◌then◌else◌, IsTrue, List, [], ◌∷◌, ◌++◌, ◌⊎◌, ◌↔◌}
use Rattle.std.specs.List.{filter}
use Rattle.flow_model.specs.Schema.{Schema}
use Rattle.flow_model.specs.Decided.{can_all_follow}
use Rattle.flow_model.specs.Run.{Claim, RunState, is_current, MayAllFollow, spare}

-- the claim is current, and in some one option its leaf and those before it may follow in every order
abbrev pub IsSpared : Schema → RunState → List ℕ → Claim → Type 0
IsSpared w s before claim = IsTrue (is_current s claim) × MayAllFollow w s (before ++ claim.leaf ∷ [])

-- each claim in turn is spared after those before it, and of the new epoch, or it is not spared and stays as it was
abbrev pub AreSpared : Schema → RunState → List ℕ → List Claim → List Claim → Type 0
AreSpared w s before [] left = left ≡ []
AreSpared w s before (claim ∷ claims) left = (rest : List Claim) × (
    (IsSpared w s before claim × (left ≡ record claim { epoch = s.epoch + 1 } ∷ rest) × AreSpared w s (before ++ claim.leaf ∷ []) claims rest)
    ⊎ (¬ (IsSpared w s before claim) × (left ≡ claim ∷ rest) × AreSpared w s before claims rest))

-- an answer to the question is the test
abbrev pub AnswersAreTheTest : Type 0
AnswersAreTheTest = (w : Schema) (s : RunState) (list : List ℕ) (answer : Bool) →
    (IsTrue answer ↔ MayAllFollow w s list) ↔ (can_all_follow w s list ≡ answer)

-- the leaves of the claims that are spared after some leaves
abbrev pub spared_leaves : Schema → RunState → List ℕ → List Claim → List ℕ
spared_leaves w s before [] = []
spared_leaves w s before (claim ∷ claims) =
    if is_current s claim && can_all_follow w s (before ++ claim.leaf ∷ [])
    then claim.leaf ∷ spared_leaves w s (before ++ claim.leaf ∷ []) claims
    else spared_leaves w s before claims

-- the claims in two pieces: the second is looked at after what is spared of the first
abbrev pub SparedPieceByPiece : Type 0
SparedPieceByPiece = (w : Schema) (s : RunState) (before : List ℕ) (first second : List Claim) →
    (spare w s before (first ++ second) ≡ spare w s before first ++ spare w s (before ++ spared_leaves w s before first) second)
    × (spared_leaves w s before (first ++ second)
    ≡ spared_leaves w s before first ++ spared_leaves w s (before ++ spared_leaves w s before first) second)

-- those that are not current stay as they are
abbrev pub OthersStay : Type 0
OthersStay = (w : Schema) (s : RunState) (before : List ℕ) (claims : List Claim) → filter (is_current s) claims ≡ [] →
    (spare w s before claims ≡ claims) × (spared_leaves w s before claims ≡ [])
