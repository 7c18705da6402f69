-- Resolutions of choices, and options: what Apply makes of a workflow (after Davulcu and others 1998).
use Rattle.std.specs.Prelude.{ℕ, ◌+◌, ◌*◌, List, [], ◌∷◌, ◌++◌, length, map, sum}
use Rattle.std.specs.List.{flat_map}
use Rattle.flow_model.specs.Lists.{AreInOrder, each_with_each}
use Rattle.flow_model.specs.Process.{Process, Empty, Task, Sequence, Parallel, Choice, Isolated, leaves}
use Rattle.flow_model.specs.Trace.{Trace}
use Rattle.flow_model.specs.Constraint.{all_of}
use Rattle.flow_model.specs.Ways.{ways_of}
use Rattle.flow_model.specs.Schema.{Schema}

-- The goals with one side taken at each choice, in order: those of a left side come first, and of two
-- parts that both stay the second runs faster. The number of a resolution is its place in this list.
abbrev pub resolutions : Process → List Process
resolutions Empty = Empty ∷ []
resolutions (Task n) = Task n ∷ []
resolutions (Sequence a b) = each_with_each Sequence (resolutions a) (resolutions b)
resolutions (Parallel a b) = each_with_each Parallel (resolutions a) (resolutions b)
resolutions (Choice a b) = resolutions a ++ resolutions b
resolutions (Isolated a) = map Isolated (resolutions a)

-- how many they are
abbrev pub resolution_count : Process → ℕ
resolution_count Empty = 1
resolution_count (Task n) = 1
resolution_count (Sequence a b) = resolution_count a * resolution_count b
resolution_count (Parallel a b) = resolution_count a * resolution_count b
resolution_count (Choice a b) = resolution_count a + resolution_count b
resolution_count (Isolated a) = resolution_count a

-- a resolution, and one way in which its leaves meet the constraints
pub record ChoiceOption : Type 0 where
  pub resolution : Process
  -- pairs of leaves, the first before the second
  pub order : List (ℕ × ℕ)

-- the ways in which the leaves of a resolution meet all constraints
abbrev pub ways_in : Schema → Process → List (List (ℕ × ℕ))
ways_in w resolution = ways_of (all_of w.rules) w.labels (leaves resolution)

-- the options of one resolution, by its ways in order
abbrev pub options_in : Schema → Process → List ChoiceOption
options_in w q = map (λ way. record { resolution = q; order = way }) (ways_in w q)

-- all options in order: by resolutions, and then by ways
abbrev pub options : Schema → List ChoiceOption
options w = flat_map (options_in w) (resolutions w.goal)

-- t is an execution of the option: a trace of its resolution in which each pair stands in order
abbrev pub OptionTrace : ChoiceOption → List ℕ → Type 0
OptionTrace o t = Trace o.resolution t × AreInOrder o.order t

-- the leaves and pairs of an option
abbrev pub option_size : ChoiceOption → ℕ
option_size o = length (leaves o.resolution) + length o.order

-- the leaves and pairs of all options
abbrev pub bulk : Schema → ℕ
bulk w = sum (map option_size (options w))
