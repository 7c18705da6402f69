-- A tree and rules as a workflow, and its options by a normal form of the rules.
use Rattle.std.specs.Prelude.{◌≡◌, ◌≤◌, ℕ, Bool, false, not, List, [], get_or, map}
use Rattle.std.specs.List.{flat_map}
use Rattle.flow_model.specs.declared.limits.TheConstants.{MOST_RESOLUTIONS}
use Rattle.flow_model.specs.Process.{Process}
use Rattle.flow_model.specs.Constraint.{Constraint}
use Rattle.flow_model.specs.Folding.{fixed_leaves, folded_count, folded_resolutions, is_named}
use Rattle.flow_model.specs.Schema.{Schema}
use Rattle.flow_model.specs.Ways.{Normal, leaf_of_event, ways}
use Rattle.flow_model.specs.Resolution.{ChoiceOption}
use Rattle.flow_goal.specs.Choices.{AreChoicesOf}
use Rattle.flow_goal.specs.Labelled.{Labelled}
use Rattle.flow_rules.specs.WayLists.{is_none}
use Rattle.flow_excise.specs.declared.folded_choices.FoldedChoices.{FoldedChoices}

-- the tree with its rules, with no facts and no notes
abbrev pub schema_with : Labelled → List Constraint → Schema
schema_with t rules = record { goal = t.process; labels = t.labels; rules = rules; facts = []; notes = [] }

-- whether the constraints name the event of the leaf
abbrev pub is_named_in : Labelled → List Constraint → ℕ → Bool
is_named_in t rules = is_named (schema_with t rules)

-- how many resolutions there are, where the choices stay of which the constraints do not speak
abbrev pub staying_count : Labelled → List Constraint → ℕ
staying_count t rules = folded_count (is_named_in t rules) t.process

-- a tree, and the test of leaves that keeps choices apart: the choices stay that hold no leaf of it
pub record FoldedTree : Type 0 where
  pub tree : Labelled
  pub apart : ℕ → Bool

abbrev pub resolutions_in : FoldedTree → List Process
resolutions_in t = folded_resolutions t.apart t.tree.process

abbrev pub count_in : FoldedTree → ℕ
count_in t = folded_count t.apart t.tree.process

abbrev pub tree_by : Labelled → (ℕ → Bool) → FoldedTree
tree_by t apart = record { tree = t; apart = apart }

-- the choices stay that were seen to stay
abbrev pub folded : Labelled → FoldedChoices → FoldedTree
folded t choices = tree_by t (λ leaf. get_or choices.folds.named.items leaf false)

-- the resolutions of the tree are prepared, and few
pub record ArePrepared (t : Labelled) (choices : FoldedChoices) : Type 0 where
  pub prepared : AreChoicesOf (folded t choices).apart t.process choices.prepared
  pub few : count_in (folded t choices) ≤ MOST_RESOLUTIONS
  pub counted : choices.count ≡ count_in (folded t choices)

-- the ways in which the leaves of a resolution outside choices meet a normal form
abbrev pub ways_by : FoldedTree → Normal → Process → List (List (ℕ × ℕ))
ways_by t normal q = ways normal (leaf_of_event t.tree.labels (fixed_leaves q))

-- there is such a way
abbrev pub has_ways : FoldedTree → Normal → Process → Bool
has_ways t normal q = not (is_none (ways_by t normal q))

-- a resolution with a way
abbrev pub option_by : Process → List (ℕ × ℕ) → ChoiceOption
option_by q way = record { resolution = q; order = way }

-- the options of one resolution
abbrev pub options_by : FoldedTree → Normal → Process → List ChoiceOption
options_by t normal q = map (option_by q) (ways_by t normal q)

-- all options in order: by resolutions, and then by ways
abbrev pub all_options_by : FoldedTree → Normal → List ChoiceOption
all_options_by t normal = flat_map (options_by t normal) (resolutions_in t)
