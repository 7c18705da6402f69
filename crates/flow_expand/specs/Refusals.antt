-- Why a workflow is not expanded.
use Rattle.std.specs.Prelude.{◌≡◌, ℕ, ◌<◌, ◌≤◌, List, length}
use Rattle.std.specs.List.{flat_map}
use Rattle.flow_model.specs.declared.limits.TheConstants.{MOST_FLOWS, MOST_LEAVES, MOST_RULE_NAMES}
use Rattle.flow_goal.specs.declared.repeats.Twice.{Twice}
use Rattle.flow_goal.specs.Repeats.{IsFirstTwice}
use Rattle.flow_form.specs.Script.{Said}
use Rattle.flow_form.specs.Names.{names_in_rule}
use Rattle.flow_workflow.specs.declared.refusal.ExpandRefusal.{ExpandRefusal}
use Rattle.flow_workflow.specs.declared.refusal.ExpandRefusal.TheVariants as refusal
use Rattle.flow_workflow.specs.declared.refusal.Part.TheVariants as part
use Rattle.flow_expand.specs.Expansion.{Expansion, Becomes, size_of, capped}
use Rattle.flow_expand.specs.Numbers.{labelled_of}
use Rattle.flow_expand.specs.Steps.{flow_names, IsRecursive, IsRecursion}

-- how many sub-workflows are declared
abbrev pub flow_count : Said → ℕ
flow_count s = length (flow_names s.decls)

-- how many names of events are written in constraints
abbrev pub rule_name_count : Said → ℕ
rule_name_count s = length (flat_map names_in_rule s.rules)

-- no more sub-workflows are declared than may be, and none names itself
pub record IsFinite (s : Said) : Type 0 where
  pub few : flow_count s ≤ MOST_FLOWS
  pub ending : ¬ (IsRecursive s.decls)

-- the goal becomes that one, which is no larger than it may be
pub record IsFitting (s : Said) (e : Expansion) : Type 0 where
  pub finite : IsFinite s
  pub becomes : Becomes s.decls s.goal e
  pub fits : size_of e ≤ MOST_LEAVES

-- and the constraints are no more than may be
pub record IsMeasured (s : Said) (e : Expansion) : Type 0 where
  pub fitting : IsFitting s e
  pub few_names : rule_name_count s ≤ MOST_RULE_NAMES

pub record HasManyFlows (s : Said) (count : ℕ) : Type 0 where
  pub many : MOST_FLOWS < flow_count s
  pub counted : count ≡ flow_count s

pub record HasRecursion (s : Said) (chain : List (List ℕ)) : Type 0 where
  pub few : flow_count s ≤ MOST_FLOWS
  pub recursive : IsRecursion s.decls chain

pub record HasLargeGoal (s : Said) (count : ℕ) : Type 0 where
  pub finite : IsFinite s
  pub expansion : Expansion
  pub becomes : Becomes s.decls s.goal expansion
  pub large : MOST_LEAVES < size_of expansion
  pub counted : count ≡ capped (size_of expansion)

pub record HasManyRuleNames (s : Said) (count : ℕ) : Type 0 where
  pub expansion : Expansion
  pub fitting : IsFitting s expansion
  pub many : MOST_RULE_NAMES < rule_name_count s
  pub counted : count ≡ capped (rule_name_count s)

-- two leaves of one event stand in one execution, and those are the first such
pub record HasRepetition (s : Said) (found : Twice) : Type 0 where
  pub expansion : Expansion
  pub measured : IsMeasured s expansion
  pub first : IsFirstTwice (labelled_of s.decls expansion) found

-- the refusal is true of what is written, and each that is tested before it is not
abbrev pub IsRefusal : Said → ExpandRefusal → Type 0
IsRefusal s (refusal.TooLarge part.Flows count) = HasManyFlows s count
IsRefusal s (refusal.Recursive chain) = HasRecursion s chain.items
IsRefusal s (refusal.TooLarge part.Goal count) = HasLargeGoal s count
IsRefusal s (refusal.TooLarge part.Rules count) = HasManyRuleNames s count
IsRefusal s (refusal.Twice found) = HasRepetition s found
IsRefusal s refusal.NoMemory = Unit {0}
