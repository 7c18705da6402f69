-- The stages that were reached.
use Rattle.std.specs.Prelude.{◌≡◌, ◌↔◌, ◌⊎◌, ℕ, List, [], ◌∷◌, ◌++◌}
use Rattle.flow_model.specs.Duties.{Duties}
use Rattle.flow_model.specs.Facts.{HoldsAt, replay}
use Rattle.flow_model.specs.Lists.{◌∈◌, Each}
use Rattle.flow_model.specs.Schema.{Schema, start_of}
use Rattle.flow_plan.specs.Orders.{MayComeNext}
use Rattle.flow_plan.specs.Planned.{Planned}
use Rattle.flow_stages.specs.declared.nodes.Node.{Node}
use Rattle.flow_stages.specs.declared.question.Question.{Question}
use Rattle.flow_stages.specs.declared.question.Question.TheVariants.{Unmanned}
use Rattle.flow_stages.specs.declared.search.Look.{Look}
use Rattle.flow_stages.specs.declared.search.Look.TheVariants as look
use Rattle.flow_stages.specs.declared.stage.Stage.{Stage}
use Rattle.flow_stages.specs.Asked.{FitsAfter, IsNotSo, IsHopeless, IsRunOf, IsShown, IsToHave}
use Rattle.flow_stages.specs.Stages.{IsAfter}

-- the stage after the leaves is among them
abbrev pub IsListed : Schema → List Node → List ℕ → Type 0
IsListed w nodes list = (node : Node) × (node ∈ nodes) × IsAfter w list node.stage

-- it is among them, or nobody may have the events up to there
abbrev pub IsCovered : Schema → Duties → Question → List Node → List ℕ → Type 0
IsCovered w d question nodes list = IsListed w nodes list ⊎ IsHopeless w d question list

-- at the stage what is asked is not so
abbrev pub IsQuiet : Schema → Duties → Planned → Question → Stage → Type 0
IsQuiet w d p question stage = (list : List ℕ) (to : ℕ → ℕ) → IsAfter w list stage → FitsAfter w d question list to → IsNotSo w d p question list to

-- at none of the stages it is
abbrev pub AreQuiet : Schema → Duties → Planned → Question → List Node → Type 0
AreQuiet w d p question nodes = Each (λ (node : Node). IsQuiet w d p question node.stage) nodes

-- the leaf may be done after these
abbrev pub MayFollow : Schema → Planned → List ℕ → ℕ → Type 0
MayFollow w p list n = MayComeNext p (λ x. x ∈ list) n × HoldsAt w.labels (replay w.labels (start_of w) list) n

-- each stage that comes next is covered
abbrev pub IsFollowed : Schema → Duties → Planned → Question → List Node → Stage → Type 0
IsFollowed w d p question nodes stage = (list : List ℕ) (n : ℕ) → IsAfter w list stage → MayFollow w p list n → IsCovered w d question nodes (list ++ n ∷ [])

-- nothing was found
abbrev pub IsOpen : Look → Type 0
IsOpen look.Open = Unit {0}
IsOpen look.Hopeless = ⊥
IsOpen (look.Shown leaves takers event) = ⊥
IsOpen look.Spent = ⊥

-- nobody may have the events up to there
abbrev pub IsHopelessLook : Look → Type 0
IsHopelessLook look.Open = ⊥
IsHopelessLook look.Hopeless = Unit {0}
IsHopelessLook (look.Shown leaves takers event) = ⊥
IsHopelessLook look.Spent = ⊥

-- the leaves with which a stage came to be are a run of the plan, and it is the stage after them
pub record IsReached (w : Schema) (p : Planned) (node : Node) : Type 0 where
  pub run : IsRunOf w p node.leaves.items
  pub after : IsAfter w node.leaves.items node.stage

abbrev pub AreReached : Schema → Planned → List Node → Type 0
AreReached w p nodes = Each (IsReached w p) nodes

-- a run that is shown is one, and shows what is asked; spent is told where no state is left
abbrev pub IsTold : Schema → Duties → Planned → Question → ℕ → Look → Type 0
IsTold w d p question left look.Open = Unit {0}
IsTold w d p question left look.Hopeless = Unit {0}
IsTold w d p question left (look.Shown leaves takers event) = IsShown w d p question leaves.items takers.items event
IsTold w d p question left look.Spent = left ≡ 0

-- the same of a search that went on, which tells of no stage that it is hopeless
abbrev pub IsToldOn : Schema → Duties → Planned → Question → ℕ → Look → Type 0
IsToldOn w d p question left look.Open = Unit {0}
IsToldOn w d p question left look.Hopeless = ⊥
IsToldOn w d p question left (look.Shown leaves takers event) = IsShown w d p question leaves.items takers.items event
IsToldOn w d p question left look.Spent = left ≡ 0

-- the events are those that are to have takers at a stage that was reached, where it is asked of an event that nobody may take
pub record IsLookedAt (w : Schema) (p : Planned) (question : Question) (node : Node) (events : List ℕ) : Type 0 where
  pub reached : IsReached w p node
  pub unmanned : question ≡ Unmanned
  pub are : (e : ℕ) → (e ∈ events) ↔ IsToHave w question node.leaves.items e
