-- Entries of an old history, made again in a new case by names.
use Rattle.std.specs.Prelude.{◌≡◌, ◌≤◌, ℕ, List, [], ◌∷◌, Some, slice_get}
use Rattle.flow_model.specs.declared.history.Entry.{Entry}
use Rattle.flow_model.specs.declared.history.Step.{Step}
use Rattle.flow_model.specs.declared.history.Step.TheVariants.{Took, Did}
use Rattle.flow_workflow.specs.Definition.{Definition}
use Rattle.flow_case.specs.declared.case_run.CaseRun.{CaseRun}
use Rattle.flow_case.specs.CaseRun.{run_of, CanMakeInCase, case_with}
use Rattle.flow_move.specs.declared.new_names.NewNames.{NewNames}
use Rattle.flow_move.specs.Labels.{labels_in}

-- ---- one entry by names

-- the user of that number has the other in the new case
abbrev pub IsCaller : NewNames → ℕ → ℕ → Type 0
IsCaller names old by = slice_get names.callers.items old ≡ Some (Some by)

-- the leaf of the new text has the label by which the old leaf goes in it
abbrev pub IsOn : NewNames → Definition → ℕ → ℕ → Type 0
IsOn names w old leaf = (label : List ℕ) × (slice_get names.labels.items old ≡ Some label) × (slice_get (labels_in w) leaf ≡ Some label)

-- the step on that leaf in place of its own
abbrev pub on_leaf : Step → ℕ → Step
on_leaf (Took claim old) leaf = Took claim leaf
on_leaf (Did old) leaf = Did leaf
on_leaf other leaf = other

-- the new step is the old one by names: of the same kind and the same claim, on a leaf of its label
abbrev pub IsStepAs : NewNames → Definition → Step → Step → Type 0
IsStepAs names w (Took claim old) step = (leaf : ℕ) × IsOn names w old leaf × (step ≡ Took claim leaf)
IsStepAs names w (Did old) step = (leaf : ℕ) × IsOn names w old leaf × (step ≡ Did leaf)
IsStepAs names w other step = step ≡ other

-- the new entry is the old one by names: its user, its step
abbrev pub IsAs : NewNames → Definition → Entry → Entry → Type 0
IsAs names w old new = IsCaller names old.by new.by × IsStepAs names w old.step new.step

-- ---- in the new case

abbrev pub definition_of : CaseRun → Definition
definition_of c = (run_of c).definition

-- it is the old entry by names, and may come next in the case, under its policy
abbrev pub MayMove : NewNames → CaseRun → Entry → Entry → Type 0
MayMove names c old new = IsAs names (definition_of c) old new × CanMakeInCase c new

-- the leaf that it is on
abbrev pub leaf_in : Step → ℕ
leaf_in (Took claim leaf) = leaf
leaf_in (Did leaf) = leaf
leaf_in other = 0

-- it may come next, and on no lesser leaf may such an entry
abbrev pub Moves : NewNames → CaseRun → Entry → Entry → Type 0
Moves names c old new =
    MayMove names c old new × ((other : Entry) → MayMove names c old other → leaf_in new.step ≤ leaf_in other.step)

-- the new entries are the old ones, each in the case that those before it leave
abbrev pub AreMoved : NewNames → CaseRun → List Entry → List Entry → Type 0
AreMoved names c [] made = made ≡ []
AreMoved names c (old ∷ olds) made =
    (new : Entry) × (more : List Entry) × (made ≡ new ∷ more) × Moves names c old new × AreMoved names (case_with c (new ∷ [])) olds more
