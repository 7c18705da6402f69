-- The claims that were given, as the code keeps them.
use Rattle.std.specs.Prelude.{ℕ, zero, suc, ◌+◌, Bool, not, ◌&&◌, ◌==◌, if◌then◌else◌, List, [], ◌∷◌}
use Rattle.flow_model.specs.Run.{Claim}
use Rattle.flow_residual.specs.declared.given.Given.{Given}

-- the claim of that number
abbrev pub claim_of : ℕ → Given → Claim
claim_of number given = record { number = number; leaf = given.leaf; epoch = given.epoch; answered = given.answered }

-- numbered onwards from the number
abbrev pub claims_from : ℕ → List Given → List Claim
claims_from number [] = []
claims_from number (given ∷ more) = claim_of number given ∷ claims_from (number + 1) more

-- unanswered, and of that epoch
abbrev pub is_out : ℕ → Given → Bool
is_out epoch given = not given.answered && (given.epoch == epoch)

-- what f tells of those that are out, where the first of the list has that place
abbrev pub out_by : {A : Type 0} → (ℕ → Given → A) → ℕ → ℕ → List Given → List A
out_by f epoch place [] = []
out_by f epoch place (given ∷ more) =
    if is_out epoch given then f place given ∷ out_by f epoch (place + 1) more else out_by f epoch (place + 1) more

-- their places
abbrev pub out_places : ℕ → ℕ → List Given → List ℕ
out_places epoch place given = out_by (λ place given. place) epoch place given

-- their leaves
abbrev pub out_leaves : ℕ → ℕ → List Given → List ℕ
out_leaves epoch place given = out_by (λ place given. given.leaf) epoch place given

-- the one at the place is of the epoch
abbrev pub with_epoch : ℕ → ℕ → List Given → List Given
with_epoch epoch place [] = []
with_epoch epoch zero (given ∷ more) = record given { epoch = epoch } ∷ more
with_epoch epoch (suc place) (given ∷ more) = given ∷ with_epoch epoch place more

-- those at the places are
abbrev pub renewed_at : ℕ → List ℕ → List Given → List Given
renewed_at epoch [] given = given
renewed_at epoch (place ∷ places) given = renewed_at epoch places (with_epoch epoch place given)
