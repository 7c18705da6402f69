-- What a command means in a run: the leaf that is to be taken or done, the claim whose task is done.
use Rattle.std.specs.Prelude.{◌≡◌, ◌≤◌, ◌⊎◌, ℕ, List, length, Option, Some, None}
use Rattle.std.specs.List.{position}
use Rattle.flow_ask.specs.declared.ask.Ask.{Ask}
use Rattle.flow_ask.specs.declared.ask.Ask.TheVariants as ask
use Rattle.flow_model.specs.Lists.{◌∈◌}
use Rattle.flow_model.specs.Facts.{event_at}
use Rattle.flow_model.specs.Run.{leaf_of_claim, IsCurrent, CanDoAside}
use Rattle.flow_model.specs.Verdict.{AreJust}
use Rattle.flow_workflow.specs.Numbers.{event_number}
use Rattle.flow_workflow.specs.Label.{leaf_text, IsLeaf}
use Rattle.flow_core.specs.Run.{Run, schema, now, IsUncommitted, HasEntryLeft}
use Rattle.flow_core.specs.Answers.{IsLeast}
use Rattle.flow_core.specs.Holding.{IsTakeable}
use Rattle.flow_fault.specs.Near.{is_near}
use Rattle.flow_names.specs.declared.command.Command.{Command}
use Rattle.flow_names.specs.declared.command.Command.TheVariants as command
use Rattle.flow_names.specs.declared.command.TaskRef.{TaskRef}
use Rattle.flow_names.specs.declared.command.ClaimRef.{ClaimRef}
use Rattle.flow_names.specs.declared.command.ClaimRef.TheVariants.{Number, Of}
use Rattle.flow_names.specs.declared.command.StepRef.{StepRef}
use Rattle.flow_names.specs.declared.command.StepRef.TheVariants as step
use Rattle.flow_names.specs.declared.leaves.Sought.{Sought}
use Rattle.flow_names.specs.declared.leaves.Sought.TheVariants.{Event, Label}
use Rattle.flow_names.specs.declared.refusal.NameRefusal.{NameRefusal}
use Rattle.flow_names.specs.declared.refusal.NameRefusal.TheVariants as refusal

-- Leaves

-- the leaf is one that is sought: of that event, or with that label
abbrev pub IsSought : Run → Sought → ℕ → Type 0
IsSought r (Event event) leaf = event_at (schema r).labels leaf ≡ Some event
IsSought r (Label label) leaf = IsLeaf r.definition leaf × (leaf_text r.definition leaf ≡ label)

-- a claim on the leaf may be given now; or it may be done now, whatever holds
abbrev pub MayNow : Run → Sought → ℕ → Type 0
MayNow r (Event event) leaf = IsTakeable r leaf
MayNow r (Label label) leaf = IsUncommitted r × HasEntryLeft r × CanDoAside (schema r) (now r) leaf

-- it is sought, and may be taken or done now
abbrev pub IsFree : Run → Sought → ℕ → Type 0
IsFree r sought leaf = IsSought r sought leaf × MayNow r sought leaf

-- it is sought, and not done
abbrev pub IsLeft : Run → Sought → ℕ → Type 0
IsLeft r sought leaf = IsSought r sought leaf × ¬ (leaf ∈ (now r).journal)

abbrev pub NoneHas : (ℕ → Type 0) → Type 0
NoneHas P = (leaf : ℕ) → ¬ (P leaf)

-- it has P, and no other has
abbrev pub IsTheOne : (ℕ → Type 0) → ℕ → Type 0
IsTheOne P leaf = P leaf × ((other : ℕ) → P other → other ≡ leaf)

-- The leaf that is meant: the one that may be taken or done now. Where none may, the least that is not done; where each is done, the
-- least.
abbrev pub IsMeant : Run → Sought → ℕ → Type 0
IsMeant r sought leaf =
    IsTheOne (IsFree r sought) leaf
    ⊎ (NoneHas (IsFree r sought) × (IsLeast (IsLeft r sought) leaf ⊎ (NoneHas (IsLeft r sought) × IsLeast (IsSought r sought) leaf)))

-- why none of those that are sought is meant
abbrev pub IsNotMeant : Run → Sought → NameRefusal → Type 0
IsNotMeant r sought (refusal.Several leaves) = AreJust (IsFree r sought) leaves.items × (2 ≤ length leaves.items)
IsNotMeant r sought refusal.NoLeaf = NoneHas (IsSought r sought)
IsNotMeant r sought refusal.NoMemory = Unit {0}
IsNotMeant r sought other = ⊥

-- Tasks

-- the events of a run
abbrev pub events : Run → List (List ℕ)
events r = r.definition.events

-- the number of the event of that name
abbrev pub event_of : Run → List ℕ → ℕ
event_of r name = event_number (events r) name

-- the number of the first event whose name differs from that one at one place
abbrev pub event_near : Run → List ℕ → Option ℕ
event_near r name = position (is_near name) (events r)

-- no event has that name
abbrev pub IsUnknown : Run → List ℕ → NameRefusal → Type 0
IsUnknown r name (refusal.Unknown near) = ¬ (name ∈ events r) × (near ≡ event_near r name)
IsUnknown r name other = ⊥

-- the leaf that a task means, where its event is declared
abbrev pub LeafMeant : Run → ℕ → Option ℕ → ℕ → Type 0
LeafMeant r event None leaf = IsMeant r (Event event) leaf
LeafMeant r event (Some said) leaf = (leaf ≡ said) × IsSought r (Event event) said

abbrev pub TaskMeans : Run → TaskRef → ℕ → Type 0
TaskMeans r task leaf = (task.name ∈ events r) × LeafMeant r (event_of r task.name) task.leaf leaf

-- why it means none, where its event is declared
abbrev pub LeafNotMeant : Run → ℕ → Option ℕ → NameRefusal → Type 0
LeafNotMeant r event None why = IsNotMeant r (Event event) why
LeafNotMeant r event (Some said) (refusal.OtherLeaf leaf) = (leaf ≡ said) × ¬ (IsSought r (Event event) said)
LeafNotMeant r event (Some said) other = ⊥

abbrev pub TaskMeansNone : Run → TaskRef → NameRefusal → Type 0
TaskMeansNone r task why =
    IsUnknown r task.name why ⊎ ((task.name ∈ events r) × LeafNotMeant r (event_of r task.name) task.leaf why)

-- Claims

-- that leaf, where one is said
abbrev pub IsThat : Option ℕ → ℕ → Type 0
IsThat None leaf = Unit {0}
IsThat (Some said) leaf = leaf ≡ said

-- the claim is out, on a leaf of the event, and on that leaf where one is said
pub record IsOutOn (r : Run) (event : ℕ) (said : Option ℕ) (claim : ℕ) : Type 0 where
  pub current : IsCurrent (now r) claim
  pub event_is : event_at (schema r).labels (leaf_of_claim (now r) claim) ≡ Some event
  pub leaf_is : IsThat said (leaf_of_claim (now r) claim)

-- the claim that is meant: the least that is out
abbrev pub ClaimMeans : Run → ClaimRef → ℕ → Type 0
ClaimMeans r (Number number) claim = claim ≡ number
ClaimMeans r (Of task) claim = (task.name ∈ events r) × IsLeast (IsOutOn r (event_of r task.name) task.leaf) claim

-- why none is
abbrev pub ClaimMeansNone : Run → ClaimRef → NameRefusal → Type 0
ClaimMeansNone r (Of task) (refusal.NotOut event) =
    (task.name ∈ events r) × (event ≡ event_of r task.name) × NoneHas (IsOutOn r event task.leaf)
ClaimMeansNone r (Of task) other = IsUnknown r task.name other
ClaimMeansNone r (Number number) other = ⊥

-- Steps

-- the leaf that is to be done
abbrev pub StepMeans : Run → StepRef → ℕ → Type 0
StepMeans r (step.Leaf said) leaf = leaf ≡ said
StepMeans r (step.Label label) leaf = IsMeant r (Label label) leaf

-- why none is
abbrev pub StepMeansNone : Run → StepRef → NameRefusal → Type 0
StepMeansNone r (step.Leaf said) why = ⊥
StepMeansNone r (step.Label label) why = IsNotMeant r (Label label) why

-- Commands

-- what a command asks of the run: nothing where it only shows, or where what it asks is to be found out by steps
abbrev pub Means : Run → Command → Option Ask → Type 0
Means r (command.Take task) (Some (ask.Take leaf)) = TaskMeans r task leaf
Means r (command.Done claim) (Some (ask.Done number)) = ClaimMeans r claim number
Means r (command.Fail claim) (Some (ask.Fail number)) = ClaimMeans r claim number
Means r (command.Do step) (Some (ask.Do leaf)) = StepMeans r step leaf
Means r command.Rewind (Some ask.Rewind) = Unit {0}
Means r command.Commit (Some ask.Commit) = Unit {0}
Means r command.Tidy None = Unit {0}
Means r command.Todo None = Unit {0}
Means r (command.Why task) None = Unit {0}
Means r command.History None = Unit {0}
Means r command.Undone None = Unit {0}
Means r (command.TickOff claim) None = Unit {0}
Means r command.Facts None = Unit {0}
Means r command.Report None = Unit {0}
Means r other meant = ⊥

-- why a command asks nothing
abbrev pub MeansNone : Run → Command → NameRefusal → Type 0
MeansNone r (command.Take task) why = TaskMeansNone r task why
MeansNone r (command.Done claim) why = ClaimMeansNone r claim why
MeansNone r (command.Fail claim) why = ClaimMeansNone r claim why
MeansNone r (command.Do step) why = StepMeansNone r step why
MeansNone r other why = ⊥
