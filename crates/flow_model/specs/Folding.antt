-- Choices of which no constraint speaks stay folded: they are not taken apart into resolutions.
use Rattle.std.specs.Prelude.{◌≡◌, ℕ, ◌+◌, ◌*◌, Bool, true, false, not, ◌&&◌, ◌||◌, ◌==◌, if◌then◌else◌, List, [], ◌∷◌, ◌++◌, Option, Some, None, map, sum}
use Rattle.std.specs.List.{flat_map, list_any}
use Rattle.flow_model.specs.Lists.{◌∈◌, each_with_each}
use Rattle.flow_model.specs.Process.{Process, Empty, Task, Sequence, Parallel, Choice, Isolated, leaves, IsChoiceFree}
use Rattle.flow_model.specs.Trace.{Blocks}
use Rattle.flow_model.specs.Facts.{event_at}
use Rattle.flow_model.specs.Constraint.{Constraint, Always, Impossible, Must, Never, Order, Not, And, Or, all_of}
use Rattle.flow_model.specs.Ways.{ways_of}
use Rattle.flow_model.specs.Schema.{Schema}
use Rattle.flow_model.specs.Resolution.{ChoiceOption, option_size, resolutions, resolution_count}

-- the events that a constraint names
abbrev pub named_events : Constraint → List ℕ
named_events Always = []
named_events Impossible = []
named_events (Must e) = e ∷ []
named_events (Never e) = e ∷ []
named_events (Order es) = es
named_events (Not c) = named_events c
named_events (And c d) = named_events c ++ named_events d
named_events (Or c d) = named_events c ++ named_events d

-- it is one of these events
abbrev pub is_among : List ℕ → Option ℕ → Bool
is_among events None = false
is_among events (Some e) = list_any (λ x. x == e) events

-- the leaf has an event that a constraint of the workflow names
abbrev pub is_named : Schema → ℕ → Bool
is_named w leaf = is_among (named_events (all_of w.rules)) (event_at w.labels leaf)

-- it may be executed with no block at all
abbrev pub may_be_empty : Process → Bool
may_be_empty Empty = true
may_be_empty (Task n) = false
may_be_empty (Sequence a b) = may_be_empty a && may_be_empty b
may_be_empty (Parallel a b) = may_be_empty a && may_be_empty b
may_be_empty (Choice a b) = may_be_empty a || may_be_empty b
may_be_empty (Isolated a) = may_be_empty a

-- there is no choice in it
abbrev pub has_no_choice : Process → Bool
has_no_choice Empty = true
has_no_choice (Task n) = true
has_no_choice (Sequence a b) = has_no_choice a && has_no_choice b
has_no_choice (Parallel a b) = has_no_choice a && has_no_choice b
has_no_choice (Choice a b) = false
has_no_choice (Isolated a) = has_no_choice a

-- Each choice in it is foldable, where the goal itself stands in no isolated part: none stands in an isolated part, holds
-- a leaf that the test keeps apart, or may be executed with no block.
abbrev pub is_foldable : (ℕ → Bool) → Process → Bool
is_foldable apart Empty = true
is_foldable apart (Task n) = true
is_foldable apart (Sequence a b) = is_foldable apart a && is_foldable apart b
is_foldable apart (Parallel a b) = is_foldable apart a && is_foldable apart b
is_foldable apart (Choice a b) =
    (not (list_any apart (leaves a ++ leaves b)) && not (may_be_empty a || may_be_empty b)) && (is_foldable apart a && is_foldable apart b)
is_foldable apart (Isolated a) = has_no_choice a

-- The goals with one side taken at each choice that is not foldable, in the order of `resolutions`. In an isolated
-- part no choice is.
abbrev pub folded_resolutions : (ℕ → Bool) → Process → List Process
folded_resolutions apart Empty = Empty ∷ []
folded_resolutions apart (Task n) = Task n ∷ []
folded_resolutions apart (Sequence a b) = each_with_each Sequence (folded_resolutions apart a) (folded_resolutions apart b)
folded_resolutions apart (Parallel a b) = each_with_each Parallel (folded_resolutions apart a) (folded_resolutions apart b)
folded_resolutions apart (Choice a b) =
    if is_foldable apart (Choice a b) then Choice a b ∷ [] else folded_resolutions apart a ++ folded_resolutions apart b
folded_resolutions apart (Isolated a) = map Isolated (resolutions a)

-- how many they are
abbrev pub folded_count : (ℕ → Bool) → Process → ℕ
folded_count apart Empty = 1
folded_count apart (Task n) = 1
folded_count apart (Sequence a b) = folded_count apart a * folded_count apart b
folded_count apart (Parallel a b) = folded_count apart a * folded_count apart b
folded_count apart (Choice a b) = if is_foldable apart (Choice a b) then 1 else folded_count apart a + folded_count apart b
folded_count apart (Isolated a) = resolution_count a

-- What every such goal has: no choice stands in an isolated part, and none may be executed with no block. So each
-- that is left is foldable.
abbrev pub IsFolded : Process → Type 0
IsFolded Empty = Unit {0}
IsFolded (Task n) = Unit {0}
IsFolded (Sequence a b) = IsFolded a × IsFolded b
IsFolded (Parallel a b) = IsFolded a × IsFolded b
IsFolded (Choice a b) = ¬ (Blocks (Choice a b) []) × IsFolded a × IsFolded b
IsFolded (Isolated a) = IsChoiceFree a

-- the two sides of each choice, inner choices first
abbrev pub choices_of : Process → List (Process × Process)
choices_of Empty = []
choices_of (Task n) = []
choices_of (Sequence a b) = choices_of a ++ choices_of b
choices_of (Parallel a b) = choices_of a ++ choices_of b
choices_of (Choice a b) = (choices_of a ++ choices_of b) ++ (a, b) ∷ []
choices_of (Isolated a) = choices_of a

-- The two sides of each choice that stays, inner choices first. In an isolated part none does.
abbrev pub staying_choices : (ℕ → Bool) → Process → List (Process × Process)
staying_choices apart Empty = []
staying_choices apart (Task n) = []
staying_choices apart (Sequence a b) = staying_choices apart a ++ staying_choices apart b
staying_choices apart (Parallel a b) = staying_choices apart a ++ staying_choices apart b
staying_choices apart (Choice a b) =
    if is_foldable apart (Choice a b) then choices_of (Choice a b) else staying_choices apart a ++ staying_choices apart b
staying_choices apart (Isolated a) = []

-- the goal with its choices left out: what every execution has
abbrev pub outside_choices : Process → Process
outside_choices Empty = Empty
outside_choices (Task n) = Task n
outside_choices (Sequence a b) = Sequence (outside_choices a) (outside_choices b)
outside_choices (Parallel a b) = Parallel (outside_choices a) (outside_choices b)
outside_choices (Choice a b) = Empty
outside_choices (Isolated a) = Isolated (outside_choices a)

-- the leaves outside choices
abbrev pub fixed_leaves : Process → List ℕ
fixed_leaves q = leaves (outside_choices q)

-- the ways in which the leaves outside choices meet all constraints
abbrev pub folded_ways : Schema → Process → List (List (ℕ × ℕ))
folded_ways w q = ways_of (all_of w.rules) w.labels (fixed_leaves q)

-- the options of one resolution, by its ways in order
abbrev pub folded_options_in : Schema → Process → List ChoiceOption
folded_options_in w q = map (λ way. record { resolution = q; order = way }) (folded_ways w q)

-- all options in order, where the choices stay that hold no leaf of the test: by resolutions, and then by ways
abbrev pub folded_options_by : (ℕ → Bool) → Schema → List ChoiceOption
folded_options_by apart w = flat_map (folded_options_in w) (folded_resolutions apart w.goal)

-- the folded options of a workflow: the choices stay of which no constraint speaks
abbrev pub folded_options : Schema → List ChoiceOption
folded_options w = folded_options_by (is_named w) w

-- how many leaves and pairs they have together; both sides of a choice that stays count
abbrev pub folded_bulk : Schema → ℕ
folded_bulk w = sum (map option_size (folded_options w))

-- each leaf of which a constraint speaks passes the test
abbrev pub KeepsNamedApart : (ℕ → Bool) → Schema → Type 0
KeepsNamedApart apart w = (n : ℕ) → is_named w n ≡ true → apart n ≡ true

-- the second option is the first with one side taken at each choice that is left
abbrev pub IsUnfolding : ChoiceOption → ChoiceOption → Type 0
IsUnfolding o u = (u.resolution ∈ resolutions o.resolution) × (u.order ≡ o.order)
