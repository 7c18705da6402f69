-- Lists of ways put together.
use Rattle.std.specs.Prelude.{ℕ, Bool, true, false, not, ◌||◌, if◌then◌else◌, ◌==◌, List, [], ◌∷◌, ◌++◌, Option, Some, None, map, fold}
use Rattle.flow_model.specs.Lists.{each_with_each}
use Rattle.flow_model.specs.Ways.{free_way, is_free, ways}
use Rattle.flow_model.specs.declared.operators.Connective.{Connective}
use Rattle.flow_model.specs.declared.operators.Connective.TheVariants.{And, Or}
use Rattle.flow_rules.specs.declared.normal.Nnf.{Nnf}
use Rattle.flow_rules.specs.declared.order_set.OrderSet.{OrderSet}
use Rattle.flow_rules.specs.Normal.{normal_of}

-- the pairs of each set
abbrev pub ways_of_sets : List OrderSet → List (List (ℕ × ℕ))
ways_of_sets sets = map (λ (s : OrderSet). s.pairs.items) sets

-- there is no way
abbrev pub is_none : List (List (ℕ × ℕ)) → Bool
is_none [] = true
is_none (way ∷ ways) = false

-- the ways of a rule that is met in any order where the flag is true, and else of one that cannot be met
abbrev pub decided : Bool → List (List (ℕ × ℕ))
decided true = free_way
decided false = []

abbrev pub is_decided : Bool → List (List (ℕ × ℕ)) → Bool
is_decided true ways = is_free ways
is_decided false ways = is_none ways

-- two leaves, the first before the second where it is wanted so, and else the other way round
abbrev pub pair_of : Bool → Option ℕ → Option ℕ → Option (ℕ × ℕ)
pair_of wanted None y = None
pair_of wanted (Some x) None = None
pair_of true (Some x) (Some y) = Some (x, y)
pair_of false (Some x) (Some y) = Some (y, x)

-- the leaves of two events
abbrev pub pair_in : (ℕ → Option ℕ) → Bool → ℕ → ℕ → Option (ℕ × ℕ)
pair_in leaf wanted a b = if a == b then None else pair_of wanted (leaf a) (leaf b)

-- the way with that pair, or what is decided where there is none
abbrev pub ways_of_pair : Bool → Option (ℕ × ℕ) → List (List (ℕ × ℕ))
ways_of_pair wanted None = decided (not wanted)
ways_of_pair wanted (Some pair) = (pair ∷ []) ∷ []

-- each of the first ways with each of the others
abbrev pub both_ways : List (List (ℕ × ℕ)) → List (List (ℕ × ℕ)) → List (List (ℕ × ℕ))
both_ways vs ws = each_with_each (λ v w. v ++ w) vs ws

-- the ways of the first and those of the other, or the one that asks for nothing
abbrev pub either_way : List (List (ℕ × ℕ)) → List (List (ℕ × ℕ)) → List (List (ℕ × ℕ))
either_way vs ws = if is_free vs || is_free ws then free_way else vs ++ ws

-- the ways of two parts
abbrev pub joined_by : Connective → List (List (ℕ × ℕ)) → List (List (ℕ × ℕ)) → List (List (ℕ × ℕ))
joined_by And vs ws = both_ways vs ws
joined_by Or vs ws = either_way vs ws

-- what one part decides of the whole
abbrev pub decider : Connective → Bool
decider And = false
decider Or = true

-- the ways in which the parts are met
abbrev pub ways_of_parts : Connective → (ℕ → Option ℕ) → List Nnf → List (List (ℕ × ℕ))
ways_of_parts c leaf parts = fold (λ vs part. joined_by c vs (ways (normal_of part) leaf)) (decided (not (decider c))) parts
