-- What is told of a property of a workflow's executions, and of one of its constraints.
use Rattle.std.specs.Prelude.{ℕ, List, [], ◌∷◌, ◌++◌, remove}
use Rattle.flow_model.specs.Facts.{events_of}
use Rattle.flow_model.specs.Constraint.{Constraint, Not, Meets}
use Rattle.flow_model.specs.Schema.{Schema, IsGood}
use Rattle.flow_excise.specs.declared.refusal.CompileRefusal.TheVariants as compile
use Rattle.flow_excise.specs.Compilation as compilation
use Rattle.flow_verify.specs.declared.answers.Verified.{Verified}
use Rattle.flow_verify.specs.declared.answers.Verified.TheVariants.{Holds, Fails}
use Rattle.flow_verify.specs.declared.answers.Redundancy.{Redundancy}
use Rattle.flow_verify.specs.declared.answers.Redundancy.TheVariants.{Redundant, Needed}
use Rattle.flow_verify.specs.declared.refusal.VerifyRefusal.{VerifyRefusal}
use Rattle.flow_verify.specs.declared.refusal.VerifyRefusal.TheVariants.{TooManyChoices, TooManyWays, TooBulky, NoRule, NoMemory}

-- the workflow with the negation of the property as its last constraint
abbrev pub against : Schema → Constraint → Schema
against w property = record w { rules = w.rules ++ Not property ∷ [] }

-- the workflow without the constraint of that index
abbrev pub without : Schema → ℕ → Schema
without w index = record w { rules = remove w.rules index }

-- every execution meets the property, or the one that is told does not
abbrev pub TellsOfProperty : Schema → Constraint → Verified → Type 0
TellsOfProperty w property Holds = (t : List ℕ) → IsGood w t → Meets property (events_of w.labels t)
TellsOfProperty w property (Fails t) = IsGood w t.items × ¬ (Meets property (events_of w.labels t.items))

-- every execution that meets the other constraints meets this one too, or the one that is told does not
abbrev pub TellsOfConstraint : Schema → ℕ → Redundancy → Type 0
TellsOfConstraint w index Redundant = (t : List ℕ) → IsGood (without w index) t → IsGood w t
TellsOfConstraint w index (Needed t) = IsGood (without w index) t.items × ¬ (IsGood w t.items)

-- why the executions of the workflow are not looked at; of want of memory nothing is said
abbrev pub IsRefused : Schema → VerifyRefusal → Type 0
IsRefused w (TooManyChoices count) = compilation.IsRefused w (compile.TooManyChoices count)
IsRefused w (TooManyWays count) = compilation.IsRefused w (compile.TooManyWays count)
IsRefused w (TooBulky count) = compilation.IsRefused w (compile.TooBulky count)
IsRefused w (NoRule index) = ⊥
IsRefused w NoMemory = Unit {0}
