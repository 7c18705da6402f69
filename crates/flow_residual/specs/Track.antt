-- How an option stands to a journal.
use Rattle.std.specs.Prelude.{◌≤◌, ℕ, List, [], ◌∷◌, ◌++◌, length, take}
use Rattle.flow_model.specs.Lists.{◌∈◌}
use Rattle.flow_model.specs.Resolution.{ChoiceOption}
use Rattle.flow_model.specs.FoldedReady.{IsFoldedReady, IsFoldedRun}
use Rattle.leaf_rows.specs.declared.leaf_set.LeafSet.{LeafSet}
use Rattle.flow_plan.specs.Rows.{IsRowOf}
use Rattle.flow_residual.specs.declared.fronts.Change.{Change}
use Rattle.flow_residual.specs.declared.fronts.Change.TheVariants.{Done, Back}

-- the front of that length is a ready run of the option
abbrev pub IsFollowedTo : ChoiceOption → List ℕ → ℕ → Type 0
IsFollowedTo o journal k = IsFoldedRun o.resolution o.order (take k journal)

-- it is the longest front of the journal that is one
pub record IsFront (journal : List ℕ) (o : ChoiceOption) (k : ℕ) : Type 0 where
  pub within : k ≤ length journal
  pub followed : IsFollowedTo o journal k
  pub longest : (m : ℕ) → m ≤ length journal → IsFollowedTo o journal m → m ≤ k

-- the leaves that may come next, where the journal is a ready run of the option
abbrev pub IsNextRow : {w : ℕ} → List ℕ → ChoiceOption → LeafSet w → Type 0
IsNextRow journal o row = IsFoldedRun o.resolution o.order journal → IsRowOf (IsFoldedReady o.resolution o.order (λ n. n ∈ journal)) row

abbrev pub journal_after : Change → List ℕ → List ℕ
journal_after (Done leaf) journal = journal ++ leaf ∷ []
journal_after (Back index) journal = take index journal
