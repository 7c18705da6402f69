-- What is asked of a workflow and its policy, once some leaves are done.
use Rattle.std.specs.Prelude.{◌≡◌, ◌⊎◌, ℕ, List, Some}
use Rattle.flow_model.specs.Duties.{Duties}
use Rattle.flow_model.specs.Facts.{event_at, Runs}
use Rattle.flow_model.specs.FoldedReady.{IsFoldedRun}
use Rattle.flow_model.specs.Lists.{◌∈◌}
use Rattle.flow_model.specs.Schema.{Schema, start_of}
use Rattle.flow_plan.specs.Orders.{MayComeNext}
use Rattle.flow_plan.specs.Planned.{Planned, pairs_of}
use Rattle.flow_stages.specs.declared.question.Question.{Question}
use Rattle.flow_stages.specs.declared.question.Question.TheVariants.{Both, Unmanned}
use Rattle.flow_stages.specs.declared.wanted.Wanted.{Wanted}
use Rattle.flow_stages.specs.declared.wanted.Wanted.TheVariants.{Anybody, OneFor}
use Rattle.flow_stages.specs.Fitting.{Fits, HasSomebody, taker_by}

-- what is wanted of takers
abbrev pub wanted_by : Question → Wanted
wanted_by (Both one two) = OneFor one two
wanted_by Unmanned = Anybody

-- the question names the event
abbrev pub IsNamedBy : Question → ℕ → Type 0
IsNamedBy (Both one two) e = (e ≡ one) ⊎ (e ≡ two)
IsNamedBy Unmanned e = ⊥

-- it is the event of one of the leaves
abbrev pub IsEventOf : Schema → List ℕ → ℕ → Type 0
IsEventOf w list e = (n : ℕ) × (n ∈ list) × (event_at w.labels n ≡ Some e)

-- it is to have a taker once the leaves are done
abbrev pub IsToHave : Schema → Question → List ℕ → ℕ → Type 0
IsToHave w question list e = IsNamedBy question e ⊎ IsEventOf w list e

-- these users may have the events that are to have takers
abbrev pub FitsAfter : Schema → Duties → Question → List ℕ → (ℕ → ℕ) → Type 0
FitsAfter w d question list to = Fits d (wanted_by question) (IsToHave w question list) to

-- after the leaves, which go to these users, what is asked is not so
abbrev pub IsNotSo : Schema → Duties → Planned → Question → List ℕ → (ℕ → ℕ) → Type 0
IsNotSo w d p (Both one two) list to = ¬ (IsEventOf w list one × IsEventOf w list two)
IsNotSo w d p Unmanned list to = (n e : ℕ) → MayComeNext p (λ x. x ∈ list) n → event_at w.labels n ≡ Some e → HasSomebody d e (IsEventOf w list) to

-- nobody may have all the events that are to have takers
abbrev pub IsHopeless : Schema → Duties → Question → List ℕ → Type 0
IsHopeless w d question list = (to : ℕ → ℕ) → ¬ (FitsAfter w d question list to)

-- the leaves may be done one after another in the plan, and their labels hold in turn
pub record IsRunOf (w : Schema) (p : Planned) (list : List ℕ) : Type 0 where
  pub ready : IsFoldedRun p.process (pairs_of p.tokens) list
  pub runs : Runs w.labels (start_of w) list

-- in no run of the plan it is so, whoever takes the events
abbrev pub IsNeverSo : Schema → Duties → Planned → Question → Type 0
IsNeverSo w d p question = (list : List ℕ) (to : ℕ → ℕ) → IsRunOf w p list → FitsAfter w d question list to → IsNotSo w d p question list to

-- after the leaves, which go to these users, what is asked is so, of that event
abbrev pub IsSo : Schema → Duties → Planned → Question → List ℕ → (ℕ → ℕ) → ℕ → Type 0
IsSo w d p (Both one two) list to event = IsEventOf w list one × IsEventOf w list two
IsSo w d p Unmanned list to event =
    ((n : ℕ) × MayComeNext p (λ x. x ∈ list) n × (event_at w.labels n ≡ Some event)) × ¬ (HasSomebody d event (IsEventOf w list) to)

-- the leaves are a run of the plan, the takers may have its events, and what is asked is so after it
pub record IsShown (w : Schema) (d : Duties) (p : Planned) (question : Question) (leaves : List ℕ) (takers : List (ℕ × ℕ)) (event : ℕ) : Type 0 where
  pub run : IsRunOf w p leaves
  pub fits : FitsAfter w d question leaves (taker_by takers)
  pub so : IsSo w d p question leaves (taker_by takers) event
