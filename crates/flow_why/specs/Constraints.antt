-- Constraints of a workflow by their numbers, and sets of them that some trace meets.
use Rattle.std.specs.Prelude.{◌≡◌, ℕ, List, [], ◌∷◌, map, slice_index_or}
use Rattle.std.proofs.Common.{refl, inl, inr, sym, subst}
use Rattle.flow_model.specs.Lists.{◌∈◌, Begins, Each}
use Rattle.flow_model.specs.Constraint.{Constraint, Always, Meets}
use Rattle.flow_model.specs.Facts.{events_of}
use Rattle.flow_model.specs.Schema.{Schema}
use Rattle.flow_model.specs.Trace.{Trace}
use Rattle.flow_plan.specs.Compilation.{IsWithinLimits}
use Rattle.flow_conflict.specs.Lists.{IsAmong}

-- the constraint of that number
abbrev pub constraint_at : List Constraint → ℕ → Constraint
constraint_at rules number = slice_index_or rules number Always

-- the constraints of these numbers
abbrev pub constraints_at : List Constraint → List ℕ → List Constraint
constraints_at rules numbers = map (constraint_at rules) numbers

-- the workflow with just the constraints of these numbers
abbrev pub with_only : Schema → List ℕ → Schema
with_only w numbers = record w { rules = constraints_at w.rules numbers }

-- some trace of the goal that begins with the list meets each constraint of these numbers
abbrev pub IsMet : Schema → List ℕ → List ℕ → Type 0
IsMet w list numbers =
    (t : List ℕ) × Trace w.goal t × Begins t list × Each (λ number. Meets (constraint_at w.rules number) (events_of w.labels t)) numbers

-- the workflow with just these is within the limits
abbrev pub IsWithin : Schema → List ℕ → Type 0
IsWithin w numbers = IsWithinLimits (with_only w numbers)

each_at : (P : ℕ → Type 0) (numbers : List ℕ) (x : ℕ) → x ∈ numbers → Each P numbers → P x
each_at P [] x m h = absurd m
each_at P (y ∷ ys) x (inl e) h = subst P (sym e) h.0
each_at P (y ∷ ys) x (inr m) h = each_at P ys x m h.1

each_of_fewer : (P : ℕ → Type 0) (fewer more : List ℕ) → IsAmong fewer more → Each P more → Each P fewer
each_of_fewer P [] more among h = tt
each_of_fewer P (x ∷ xs) more among h = (each_at P more x (among x (inl refl)) h, each_of_fewer P xs more (λ y m. among y (inr m)) h)

-- a trace that meets more meets less
pub met_of_fewer : (w : Schema) (list fewer more : List ℕ) → IsAmong fewer more → IsMet w list more → IsMet w list fewer
met_of_fewer w list fewer more among (t, trace, begins, each) =
    (t, trace, begins, each_of_fewer (λ number. Meets (constraint_at w.rules number) (events_of w.labels t)) fewer more among each)
