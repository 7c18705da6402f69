-- What the trail of a case has to tell of its entries.
use Rattle.std.specs.Prelude.{◌≡◌, ℕ, List, [], ◌∷◌, Option, None, Some}
use Rattle.flow_model.specs.Lists.{◌∈◌}
use Rattle.flow_model.specs.declared.history.Entry.{Entry}
use Rattle.flow_model.specs.declared.history.Step.{Step}
use Rattle.flow_model.specs.declared.history.Step.TheVariants.{Took, Done, Failed, Late, Did, Rewound, Committed}
use Rattle.flow_record.specs.History.{step_text}
use Rattle.flow_core.specs.Run.{Run}
use Rattle.flow_trail.specs.Due.{Entered}
use Rattle.flow_case_cli.specs.Line.{IsTaskOf}
use Rattle.flow_case_book.specs.People.{name_of}

-- an entry gave the claim, on that leaf
abbrev pub IsGivenOn : List Entry → ℕ → ℕ → Type 0
IsGivenOn history claim leaf = (entry : Entry) × (entry ∈ history) × (entry.step ≡ Took claim leaf)

-- the leaf of the claim, if it was given
abbrev pub IsLeafOfClaim : List Entry → ℕ → Option ℕ → Type 0
IsLeafOfClaim history claim None = (leaf : ℕ) → ¬ (IsGivenOn history claim leaf)
IsLeafOfClaim history claim (Some leaf) = IsGivenOn history claim leaf

-- the leaf that a step is about, if it is about one
abbrev pub IsLeafOfStep : List Entry → Step → Option ℕ → Type 0
IsLeafOfStep history (Took claim leaf) found = found ≡ Some leaf
IsLeafOfStep history (Did leaf) found = found ≡ Some leaf
IsLeafOfStep history (Done claim) found = IsLeafOfClaim history claim found
IsLeafOfStep history (Failed claim effect) found = IsLeafOfClaim history claim found
IsLeafOfStep history (Late claim) found = IsLeafOfClaim history claim found
IsLeafOfStep history (Rewound index) found = found ≡ None
IsLeafOfStep history Committed found = found ≡ None

-- A line has to tell of the entry: by whom it was made, its step, and the name of its task.
pub record IsDue (names : List (List ℕ)) (r : Run) (entry : Entry) (due : Entered) : Type 0 where
  pub by : due.by ≡ name_of names entry.by
  pub step : due.entry ≡ step_text entry.step
  pub leaf : Option ℕ
  pub of_leaf : IsLeafOfStep r.history entry.step leaf
  pub task : IsTaskOf r.definition leaf due.task

-- the lines have to tell this of the entries, in order
abbrev pub AreDue : List (List ℕ) → Run → List Entry → List Entered → Type 0
AreDue names r [] [] = Unit {0}
AreDue names r [] (due ∷ more) = ⊥
AreDue names r (entry ∷ entries) [] = ⊥
AreDue names r (entry ∷ entries) (due ∷ more) = IsDue names r entry due × AreDue names r entries more

-- of all entries of the run
abbrev pub AreDueOf : List (List ℕ) → Run → List Entered → Type 0
AreDueOf names r dues = AreDue names r r.history dues
