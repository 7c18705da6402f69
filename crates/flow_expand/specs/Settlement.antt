-- Sub-workflows that wait for one another, by their numbers.
use Rattle.std.specs.Prelude.{◌≡◌, ℕ, ◌+◌, ◌<◌, List, [], ◌∷◌, ◌++◌, All, length, Some, slice_get, slice_index_or}
use Rattle.flow_model.specs.Lists.{◌∈◌, AreDistinct}
use Rattle.flow_form.specs.Form.{Shape}
use Rattle.flow_form.specs.Script.{Declared}
use Rattle.flow_form.specs.Names.{names_in}
use Rattle.flow_expand.specs.declared.lay.Stage.{Stage}
use Rattle.flow_expand.specs.declared.lay.Stage.TheVariants as stage
use Rattle.flow_expand.specs.declared.layout.Root.{Root}
use Rattle.flow_workflow.specs.declared.refusal.ExpandRefusal.{ExpandRefusal}
use Rattle.flow_workflow.specs.declared.refusal.ExpandRefusal.TheVariants as refusal
use Rattle.flow_expand.specs.Steps.{flows_of, flow_names, IsRecursion}

-- the goal of the first sub-workflow names the second
pub record NumberStep (decls : List Declared) (one two : ℕ) : Type 0 where
  pub name : List ℕ
  pub goal : Shape
  pub other : List ℕ
  pub others : Shape
  pub first : slice_get (flows_of decls) one ≡ Some (name, goal)
  pub second : slice_get (flows_of decls) two ≡ Some (other, others)
  pub names : other ∈ names_in goal

-- each of the list is a step from the one before
abbrev pub AreSteps : List Declared → List ℕ → Type 0
AreSteps decls [] = Unit {0}
AreSteps decls (k ∷ []) = Unit {0}
AreSteps decls (k ∷ j ∷ more) = NumberStep decls k j × AreSteps decls (j ∷ more)

-- just the sub-workflows of the list wait, each for the next
pub record IsPath (decls : List Declared) (laid : List Stage) (path : List ℕ) : Type 0 where
  pub steps : AreSteps decls path
  pub distinct : AreDistinct path
  pub begun : (k : ℕ) → k ∈ path → slice_get laid k ≡ Some stage.Begun
  pub only : (k : ℕ) → slice_get laid k ≡ Some stage.Begun → k ∈ path

-- the last of a path of steps takes a step to one of its members
pub record ComesBack (decls : List Declared) (path : List ℕ) (last next : ℕ) : Type 0 where
  pub steps : AreSteps decls path
  pub distinct : AreDistinct path
  pub ends : (front : List ℕ) × (path ≡ front ++ last ∷ [])
  pub step : NumberStep decls last next
  pub there : next ∈ path
  pub within : All (λ k. k < length (flow_names decls)) path

-- what is laid stays, no more are unlaid, and there are as many
pub record Stays (old new : List Stage) : Type 0 where
  pub as_many : length new ≡ length old
  pub laid : (k : ℕ) (root : Root) → slice_get old k ≡ Some (stage.Laid root) → slice_get new k ≡ Some (stage.Laid root)
  pub unlaid : (k : ℕ) → slice_get new k ≡ Some stage.Unlaid → slice_get old k ≡ Some stage.Unlaid

-- none waits
abbrev pub IsIdle : List Stage → Type 0
IsIdle laid = (k : ℕ) → ¬ (slice_get laid k ≡ Some stage.Begun)

-- the error, if it is not of memory, is a chain of sub-workflows
abbrev pub IsFound : List Declared → ExpandRefusal → Type 0
IsFound decls (refusal.TooLarge part count) = ⊥
IsFound decls (refusal.Recursive chain) = IsRecursion decls chain.items
IsFound decls (refusal.Twice found) = ⊥
IsFound decls refusal.NoMemory = Unit {0}

-- the name of a sub-workflow by its number
abbrev pub name_at : List Declared → ℕ → List ℕ
name_at decls k = slice_index_or (flow_names decls) k []

abbrev pub weight : Stage → ℕ
weight stage.Unlaid = 2
weight stage.Begun = 1
weight (stage.Laid root) = 0

-- how much is left to do
abbrev pub work_left : List Stage → ℕ
work_left [] = 0
work_left (p ∷ ps) = weight p + work_left ps
