-- Executions that go on from a journal and have a leaf.
use Rattle.std.specs.Prelude.{ℕ, Bool, IsTrue, List}
use Rattle.flow_model.specs.Lists.{◌∈◌, Begins, Each}
use Rattle.flow_model.specs.Process.{leaves}
use Rattle.flow_model.specs.Resolution.{ChoiceOption}
use Rattle.flow_model.specs.Schema.{Schema, IsGood}
use Rattle.flow_model.specs.FoldedRun.{CanAvoid}
use Rattle.flow_plan.specs.Options.{option_of}
use Rattle.flow_plan.specs.Planned.{Planned}
use Rattle.flow_plan.specs.Sampled.{Sampled}
use Rattle.flow_plan.specs.Sided.{AreSidesOf}
use Rattle.flow_plan.specs.declared.sides.Sides.{Sides}
use Rattle.flow_residual.specs.Telling.{IsOrderedOption}
use Rattle.flow_trace.specs.Fronts.{Follows}

-- some good trace begins with the journal, has the leaf, and has none of the others
abbrev pub MayStillCome : Schema → List ℕ → List ℕ → ℕ → Type 0
MayStillCome w journal without leaf = (t : List ℕ) × IsGood w t × Begins t journal × Each (λ n. ¬ (n ∈ t)) without × (leaf ∈ t)

-- the journal is a ready run of the option, which has the leaf; it can go on with what is done and without what is out
pub record HasAhead (journal : List ℕ) (leaf : ℕ) (done out : ℕ → Bool) (o : ChoiceOption) : Type 0 where
  pub has_leaf : leaf ∈ leaves o.resolution
  pub avoids : CanAvoid o.resolution (λ n. IsTrue (done n)) (λ n. IsTrue (out n))
  pub journal_ready : Follows journal o

-- the sides tell of the plan, by what is done and what is out
abbrev pub TellsOf : Planned → (ℕ → Bool) → (ℕ → Bool) → Sides → Type 0
TellsOf p done out sides = IsOrderedOption (option_of p) → AreSidesOf p.process (λ n. IsTrue (done n)) (λ n. IsTrue (out n)) sides

-- and of each of the plans
abbrev pub TellsOfEach : List Sampled → (ℕ → Bool) → (ℕ → Bool) → Sides → Type 0
TellsOfEach plans done out sides = (s : Sampled) → s ∈ plans → TellsOf s.plan done out sides
