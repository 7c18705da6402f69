-- Which of some leaves stay, where each in turn stays if it may follow together with those that stayed before.
use Rattle.std.specs.Prelude.{◌≡◌, ℕ, Bool, IsTrue, false, if◌then◌else◌, List, [], ◌∷◌, ◌++◌, take}
use Rattle.leaf_rows.specs.Leaves.{has_leaf}
use Rattle.leaf_rows.specs.declared.leaf_set.LeafSet.{LeafSet}
use Rattle.leaf_rows.specs.declared.TheConstants.{LEAF_WORDS}
use Rattle.flow_model.specs.Lists.{◌∈◌, Each, AreDistinct}
use Rattle.flow_model.specs.Schema.{Schema}
use Rattle.flow_model.specs.FoldedReady.{IsFoldedReady}
use Rattle.flow_model.specs.Resolution.{ChoiceOption}
use Rattle.flow_model.specs.Decided.{can_all_follow}
use Rattle.flow_model.specs.Run.{RunState}
use Rattle.flow_residual.specs.Options.{SomeOption}
use Rattle.flow_residual.specs.Question.{CanBegin, TakesAll}
use Rattle.flow_residual.specs.Remaining.{Remaining, IsOf}

-- of each leaf, whether it stays, after some that stayed
abbrev pub staying : Schema → RunState → List ℕ → List ℕ → List Bool
staying w s before [] = []
staying w s before (leaf ∷ leaves) =
    can_all_follow w s (before ++ leaf ∷ [])
    ∷ staying w s (if can_all_follow w s (before ++ leaf ∷ []) then before ++ leaf ∷ [] else before) leaves

abbrev pub head : List Bool → Bool
head [] = false
head (bit ∷ bits) = bit

abbrev pub tail : List Bool → List Bool
tail [] = []
tail (bit ∷ bits) = bits

-- the members whose bit is set
abbrev pub picked : List Bool → List ℕ → List ℕ
picked bits [] = []
picked bits (x ∷ xs) = if head bits then x ∷ picked (tail bits) xs else picked (tail bits) xs

-- so many at the front are those that stay, in both lists
pub record AreThinned (r : Remaining) (places leaves new_places new_leaves : List ℕ) (kept : ℕ) : Type 0 where
  pub bits : List Bool
  pub places_are : take kept new_places ≡ picked bits places
  pub leaves_are : take kept new_leaves ≡ picked bits leaves
  pub spared : (w : Schema) (s : RunState) → IsOf w s r → bits ≡ staying w s [] leaves

-- the leaves of the set may follow with the claimed ones in every order, whichever of them, in some one option
abbrev pub AllStay : Remaining → List ℕ → LeafSet LEAF_WORDS → Type 0
AllStay r claims set = (leaf : ℕ) (more : List ℕ) → AreDistinct (leaf ∷ more) → Each (λ n. IsTrue (has_leaf set n)) (leaf ∷ more) →
    SomeOption (TakesAll r (claims ++ leaf ∷ more)) r.options

-- the leaf may come next in the option, may be begun, and is not among the claimed ones
pub record IsCandidate (r : Remaining) (claims : LeafSet LEAF_WORDS) (o : ChoiceOption) (n : ℕ) : Type 0 where
  pub ready : IsFoldedReady o.resolution o.order (λ x. x ∈ r.journal) n
  pub begins : CanBegin r n
  pub new : ¬ (IsTrue (has_leaf claims n))
