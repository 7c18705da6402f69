-- What to look at in the policy of a case.
use Rattle.std.specs.Prelude.{◌≡◌, ◌≢◌, ◌<◌, ◌↔◌, ◌⊎◌, ◌==◌, ℕ, Bool, List, [], ◌∷◌}
use Rattle.std.specs.List.{list_any}
use Rattle.flow_model.specs.Lists.{◌∈◌}
use Rattle.flow_model.specs.Facts.{events_of}
use Rattle.flow_model.specs.Constraint.{Constraint, Must, Never, Order, Meets}
use Rattle.flow_model.specs.Duties.{Duties, HasRole, IsConstraintOf}
use Rattle.flow_model.specs.Schema.{Schema, IsGood}
use Rattle.flow_workflow.specs.Rule.{any_of}
use Rattle.flow_policy.specs.declared.tie.Tie.{Tie}
use Rattle.flow_plan.specs.Compilation.{IsWithinLimits}
use Rattle.flow_verify.specs.Verification.{against}
use Rattle.flow_case.specs.Rules.{IsMarked}
use Rattle.flow_policy_lint.specs.declared.met.Met.{Met}
use Rattle.flow_policy_lint.specs.declared.met.Met.TheVariants as met

-- a number below the count that has P
abbrev pub IsOneBelow : ℕ → (ℕ → Type 0) → ℕ → Type 0
IsOneBelow count P number = (number < count) × P number

-- Users have numbers below `users`

-- no user has a role for the event
abbrev pub IsForNobody : Duties → ℕ → ℕ → Type 0
IsForNobody d users event = (user : ℕ) → user < users → ¬ (HasRole d user event)

-- some constraint is of the two events
abbrev pub IsPairOf : List (ℕ × ℕ) → ℕ → ℕ → Type 0
IsPairOf pairs one two = (i : ℕ) × IsConstraintOf pairs i one two

-- a tie is with the event
abbrev pub has_tie : ℕ → List Tie → Bool
has_tie other ties = list_any (λ (t : Tie). t.other == other) ties

-- no user has roles for both events
abbrev pub NobodyHasBoth : Duties → ℕ → ℕ → ℕ → Type 0
NobodyHasBoth d users one two = (user : ℕ) → user < users → ¬ (HasRole d user one × HasRole d user two)

-- no other user has a role for the event
abbrev pub IsAlone : Duties → ℕ → ℕ → ℕ → Type 0
IsAlone d users user event = (other : ℕ) → other < users → ¬ ((other ≢ user) × HasRole d other event)

-- no user has a role for the one event while another user has one for the other
abbrev pub NoTwoHave : Duties → ℕ → ℕ → ℕ → Type 0
NoTwoHave d users one two = (user : ℕ) → user < users → ¬ (HasRole d user one × ¬ (IsAlone d users user two))

-- the two events are separate, or no user has roles for both
abbrev pub IsForNoOne : Duties → ℕ → ℕ → ℕ → Type 0
IsForNoOne d users one two = IsPairOf d.separate one two ⊎ NobodyHasBoth d users one two

-- the two events are bound, and no one user may have both
abbrev pub IsUnmetBind : Duties → ℕ → ℕ → ℕ → Type 0
IsUnmetBind d users one two = (one < two) × (IsPairOf d.bound one two × IsForNoOne d users one two)

-- the two events are separate, and no two users may have them
abbrev pub IsUnmetSeparate : Duties → ℕ → ℕ → ℕ → Type 0
IsUnmetSeparate d users one two = (one < two) × (IsPairOf d.separate one two × NoTwoHave d users one two)

-- whether the executions meet the property is seen within the limits
abbrev pub CanBeSeen : Schema → Constraint → Type 0
CanBeSeen w property = IsWithinLimits (against w property)

-- each execution that meets the constraints meets the property
abbrev pub AllMeet : Schema → Constraint → Type 0
AllMeet w property = (t : List ℕ) → IsGood w t → Meets property (events_of w.labels t)

abbrev pub IsAlways : Schema → Constraint → Type 0
IsAlways w property = CanBeSeen w property × AllMeet w property

abbrev pub IsNotAlways : Schema → Constraint → Type 0
IsNotAlways w property = CanBeSeen w property × ¬ (AllMeet w property)

abbrev pub TellsMet : Schema → Constraint → Met → Type 0
TellsMet w property met.Always = CanBeSeen w property × AllMeet w property
TellsMet w property met.NotAlways = CanBeSeen w property × ¬ (AllMeet w property)
TellsMet w property met.Unseen = ¬ (CanBeSeen w property)

-- if the one event happens, then the other does
abbrev pub if_then : ℕ → ℕ → Constraint
if_then one two = any_of (Never one ∷ Must two ∷ [])

-- if both events happen, then the one before the other
abbrev pub before_if_both : ℕ → ℕ → Constraint
before_if_both one two = any_of (Never one ∷ Never two ∷ Order (one ∷ two ∷ []) ∷ [])

-- Each execution that has the one event has the task, some execution does not have the task, and in some execution the task comes behind the
-- event: so what would do without the task lies before the event.
abbrev pub IsStuck : Schema → ℕ → ℕ → Type 0
IsStuck w last task = IsAlways w (if_then last task) × (IsNotAlways w (Must task) × IsNotAlways w (before_if_both task last))

-- the event is final, and so it is of another one
abbrev pub IsStuckBehind : Schema → List Bool → ℕ → ℕ → Type 0
IsStuckBehind w finals last task = IsMarked finals last × ((task ≢ last) × IsStuck w last task)

-- just the pairs with P are in the list, the first below the one bound and the second below the other
abbrev pub ArePairs : (ℕ → ℕ → Type 0) → ℕ → ℕ → List (ℕ × ℕ) → Type 0
ArePairs P ones twos found = (one two : ℕ) → ((one, two) ∈ found) ↔ ((one < ones) × ((two < twos) × P one two))

-- the pairs of that first event are added
abbrev pub AddsPairs : (ℕ → ℕ → Type 0) → ℕ → ℕ → List (ℕ × ℕ) → List (ℕ × ℕ) → Type 0
AddsPairs P first twos old new = (one two : ℕ) → ((one, two) ∈ new) ↔ (((one, two) ∈ old) ⊎ ((one ≡ first) × ((two < twos) × P one two)))
