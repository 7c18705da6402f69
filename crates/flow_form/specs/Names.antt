-- The names that a text declares, and those that it uses.
use Rattle.std.specs.Prelude.{ℕ, ◌<◌, ◌^◌, List, [], ◌∷◌, ◌++◌, length}
use Rattle.std.specs.List.{flat_map}
use Rattle.flow_model.specs.Lists.{◌∈◌, Each, AreDistinct}
use Rattle.flow_form.specs.Form.{Shape, Shapes, named, iso, serial, beside, either, no_more, followed, IsGrouped}
use Rattle.flow_form.specs.RuleForm.{RuleShape, RuleShapes, must, never, order, precedes, needs, negated, all, any}
use Rattle.flow_form.specs.RuleForm as rule
use Rattle.flow_form.specs.Script.{Declared, fact, event, flow, Said}

-- events and sub-workflows share one space of names
abbrev pub declared_name : Declared → List (List ℕ)
declared_name (fact a) = []
declared_name (event n note) = n ∷ []
declared_name (flow n s) = n ∷ []

-- the names of events and sub-workflows, in order of declaration
abbrev pub declared_names : List Declared → List (List ℕ)
declared_names decls = flat_map declared_name decls

abbrev pub event_name : Declared → List (List ℕ)
event_name (event n note) = n ∷ []
event_name _ = []

-- the names of events, in order of declaration: an event's number is its place here
abbrev pub event_names : List Declared → List (List ℕ)
event_names decls = flat_map event_name decls

-- the names of events and sub-workflows in a goal, from left to right
abbrev mutual
  pub names_in : Shape → List (List ℕ)
  names_in (named n) = n ∷ []
  names_in (iso s) = names_in s
  names_in (serial ss) = names_in_each ss
  names_in (beside ss) = names_in_each ss
  names_in (either ss) = names_in_each ss
  names_in _ = []

  pub names_in_each : Shapes → List (List ℕ)
  names_in_each no_more = []
  names_in_each (followed s ss) = names_in s ++ names_in_each ss

-- the names of events in a constraint, from left to right
abbrev mutual
  pub names_in_rule : RuleShape → List (List ℕ)
  names_in_rule (must n) = n ∷ []
  names_in_rule (never n) = n ∷ []
  names_in_rule (order ns) = ns
  names_in_rule (precedes a b) = a ∷ b ∷ []
  names_in_rule (needs a b) = a ∷ b ∷ []
  names_in_rule (negated r) = names_in_rule r
  names_in_rule (all rs) = names_in_rules rs
  names_in_rule (any rs) = names_in_rules rs

  pub names_in_rules : RuleShapes → List (List ℕ)
  names_in_rules rule.no_more = []
  names_in_rules (rule.followed r rs) = names_in_rule r ++ names_in_rules rs

-- the goal of a sub-workflow
abbrev pub flow_goal : Declared → List Shape
flow_goal (flow n s) = s ∷ []
flow_goal _ = []

-- the goals that are written: those of sub-workflows in order of declaration, and then the goal
abbrev pub goals_of : Said → List Shape
goals_of s = flat_map flow_goal s.decls ++ s.goal ∷ []

-- each name that is used is declared, once, and as it must be
pub record HasGoodNames (s : Said) : Type 0 where
  pub in_goals : Each (λ n. n ∈ declared_names s.decls) (flat_map names_in (goals_of s))
  pub in_rules : Each (λ n. n ∈ event_names s.decls) (flat_map names_in_rule s.rules)
  pub once : AreDistinct (declared_names s.decls)

-- its names are good, its goals are well made, and its declarations can be numbered
pub record IsClosed (s : Said) : Type 0 where
  pub named : HasGoodNames s
  -- each list of a goal has two or more members
  pub grouped : Each IsGrouped (goals_of s)
  pub few : length s.decls < 2 ^ 31
