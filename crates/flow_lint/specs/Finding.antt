-- What is found, kind by kind.
use Rattle.std.specs.Prelude.{◌≡◌, ◌<◌, ℕ, true, List, [], ◌∷◌, ◌++◌, length, map, Some, slice_get}
use Rattle.flow_model.specs.Verdict.{AreJust}
use Rattle.flow_form.specs.Script.{Said}
use Rattle.flow_workflow.specs.Definition.{Definition, schema_of}
use Rattle.flow_lint.specs.declared.kind.Kind.{Kind}
use Rattle.flow_lint.specs.declared.kind.Kind.TheVariants.{NeverAdded, NeverTested, UnusedEvent, UnusedFlow, DeadLeaf, Redundant, Unsettled, Idle, IdleNop, LoneIso}
use Rattle.flow_lint.specs.declared.finding.Finding.{Finding}
use Rattle.flow_lint.specs.Facts.{IsNeverAdded, IsNeverTested}
use Rattle.flow_lint.specs.Events.{IsUnused}
use Rattle.flow_lint.specs.Leaves.{IsDead}
use Rattle.flow_lint.specs.Constraints.{CanBeSeen, IsRedundant, IsIdle}
use Rattle.flow_lint.specs.Goals.{unused_flows, nops_of, isos_of}

-- a number below the count that has P
abbrev pub IsOneOf : ℕ → (ℕ → Type 0) → ℕ → Type 0
IsOneOf count P number = (number < count) × P number

abbrev pub finding : Kind → ℕ → Finding
finding kind number = record { kind = kind; number = number }

-- of how many things that is asked
abbrev pub count_of : Said → Definition → Kind → ℕ
count_of s w NeverAdded = length w.facts
count_of s w NeverTested = length w.facts
count_of s w UnusedEvent = length w.events
count_of s w UnusedFlow = length (unused_flows s)
count_of s w DeadLeaf = length w.tree.labels
count_of s w Redundant = length w.rules
count_of s w Unsettled = length w.rules
count_of s w Idle = length w.rules
count_of s w IdleNop = length (nops_of s)
count_of s w LoneIso = length (isos_of w.events s)

-- that is so of the thing of that number
abbrev pub IsSo : Said → Definition → Kind → ℕ → Type 0
IsSo s w NeverAdded fact = IsNeverAdded w.tree.labels w.held fact
IsSo s w NeverTested fact = IsNeverTested w.tree.labels w.held fact
IsSo s w UnusedEvent event = IsUnused w.tree.labels event
IsSo s w UnusedFlow declaration = slice_get (unused_flows s) declaration ≡ Some true
IsSo s w DeadLeaf leaf = IsDead (schema_of w) leaf
IsSo s w Redundant rule = IsRedundant (schema_of w) rule
IsSo s w Unsettled rule = ¬ (CanBeSeen (schema_of w) rule)
IsSo s w Idle rule = IsIdle (schema_of w) rule
IsSo s w IdleNop place = slice_get (nops_of s) place ≡ Some true
IsSo s w LoneIso place = slice_get (isos_of w.events s) place ≡ Some true

-- the kinds in the order in which they are told
abbrev pub all_kinds : List Kind
all_kinds = NeverAdded ∷ NeverTested ∷ UnusedEvent ∷ UnusedFlow ∷ DeadLeaf ∷ Redundant ∷ Unsettled ∷ Idle ∷ IdleNop ∷ LoneIso ∷ []

-- of each of the kinds in turn, just the numbers of which it is so, and these rise
abbrev pub AreOf : Said → Definition → List Kind → List Finding → Type 0
AreOf s w [] found = found ≡ []
AreOf s w (kind ∷ kinds) found = (numbers : List ℕ) × (others : List Finding) × (found ≡ map (finding kind) numbers ++ others)
    × AreJust (IsOneOf (count_of s w kind) (IsSo s w kind)) numbers × AreOf s w kinds others

-- what is found of a text and its workflow
abbrev pub AreFindings : Said → Definition → List Finding → Type 0
AreFindings s w found = AreOf s w all_kinds found

-- the finding is so
abbrev pub IsFinding : Said → Definition → Finding → Type 0
IsFinding s w one = IsOneOf (count_of s w one.kind) (IsSo s w one.kind) one.number

-- findings of that kind are added at the end, just one for each number that has P
abbrev pub Adds : Kind → ℕ → (ℕ → Type 0) → List Finding → List Finding → Type 0
Adds kind count P old new = (numbers : List ℕ) × (new ≡ old ++ map (finding kind) numbers) × AreJust (IsOneOf count P) numbers

-- what is found of these kinds is added at the end
abbrev pub IsAdded : Said → Definition → List Kind → List Finding → List Finding → Type 0
IsAdded s w kinds old new = (more : List Finding) × (new ≡ old ++ more) × AreOf s w kinds more
