-- Sub-workflows that name one another.
use Rattle.std.specs.Prelude.{◌≡◌, ℕ, List, [], ◌∷◌, ◌++◌, Some, slice_get}
use Rattle.std.specs.List.{flat_map}
use Rattle.flow_model.specs.Lists.{◌∈◌, Each, AreDistinct, StandsBefore}
use Rattle.flow_form.specs.Form.{Shape}
use Rattle.flow_form.specs.Script.{Declared, flow}
use Rattle.flow_form.specs.Names.{names_in, declared_names}

abbrev pub flow_of : Declared → List (List ℕ × Shape)
flow_of (flow n s) = (n, s) ∷ []
flow_of d = []

-- the sub-workflows with their goals, in order of declaration
abbrev pub flows_of : List Declared → List (List ℕ × Shape)
flows_of decls = flat_map flow_of decls

abbrev pub flow_name : Declared → List (List ℕ)
flow_name (flow n s) = n ∷ []
flow_name d = []

-- the names of the sub-workflows, in order of declaration
abbrev pub flow_names : List Declared → List (List ℕ)
flow_names decls = flat_map flow_name decls

-- every name in the goal of a sub-workflow was declared
abbrev pub AreDeclared : List Declared → Type 0
AreDeclared decls = (k : ℕ) (n : List ℕ) (s : Shape) → slice_get (flows_of decls) k ≡ Some (n, s) → Each (λ m. m ∈ declared_names decls) (names_in s)

-- both are sub-workflows, and the second's name stands in the first's goal
pub record IsStep (decls : List Declared) (one two : List ℕ) : Type 0 where
  pub goal : Shape
  pub is_goal : flow one goal ∈ decls
  pub names : two ∈ names_in goal
  pub is_flow : two ∈ flow_names decls

-- from each name to the next, and from the last to the end, is a step
abbrev pub LeadsTo : List Declared → List ℕ → List ℕ → List (List ℕ) → Type 0
LeadsTo decls last n [] = IsStep decls n last
LeadsTo decls last n (next ∷ more) = IsStep decls n next × LeadsTo decls last next more

-- the sub-workflow names itself through one or more steps
abbrev pub NamesItself : List Declared → List ℕ → Type 0
NamesItself decls n = (between : List (List ℕ)) × LeadsTo decls n n between

-- some sub-workflow names itself
abbrev pub IsRecursive : List Declared → Type 0
IsRecursive decls = (n : List ℕ) × NamesItself decls n

-- the chain leads from a sub-workflow to itself, by way of others that are declared later, each once
pub record IsRecursion (decls : List Declared) (chain : List (List ℕ)) : Type 0 where
  pub first : List ℕ
  pub between : List (List ℕ)
  pub written : chain ≡ first ∷ (between ++ first ∷ [])
  pub steps : LeadsTo decls first first between
  pub distinct : AreDistinct (first ∷ between)
  pub earliest : Each (λ n. StandsBefore first n (flow_names decls)) between
