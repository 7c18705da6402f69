-- Silent steps: the tests and updates that a task waits for, done before it is taken.
use Rattle.std.specs.Prelude.{◌≡◌, ◌⊎◌, ℕ, Bool, true, false, List, [], ◌∷◌, Result}
use Rattle.flow_ask.specs.declared.ask.Ask.{Ask}
use Rattle.flow_ask.specs.declared.ask.Ask.TheVariants.{Do}
use Rattle.flow_ask.specs.declared.made.Made.{Made}
use Rattle.flow_ask.specs.declared.refusal.Refusal.{Refusal}
use Rattle.flow_model.specs.declared.history.Step.TheVariants.{Did}
use Rattle.flow_model.specs.Schema.{IsOtherLeaf}
use Rattle.flow_model.specs.Ready.{InSequence}
use Rattle.flow_core.specs.Run.{Run, schema, with_entry, HasEntryLeft}
use Rattle.flow_core.specs.Next.{CanAct}
use Rattle.flow_core.specs.Answers.{IsLeast}
use Rattle.flow_core.specs.Holding.{IsTakeable}
use Rattle.flow_names.specs.Meaning.{NoneHas}

-- the step is no event, stands before the leaf in the goal, and may be done now
pub record IsStepBefore (r : Run) (leaf step : ℕ) : Type 0 where
  pub silent : IsOtherLeaf (schema r) step
  pub before : InSequence (schema r).goal step leaf
  pub may : CanAct r step

-- The caller does the steps one after another, and the run is this afterwards: each is the least that may be done before the leaf, and
-- none is done once the leaf may be taken.
abbrev pub AreSteps : Run → ℕ → ℕ → List ℕ → Run → Type 0
AreSteps r by leaf [] after = after ≡ r
AreSteps r by leaf (step ∷ steps) after =
    ¬ (IsTakeable r leaf) × IsLeast (IsStepBefore r leaf) step × AreSteps (with_entry r by (Did step)) by leaf steps after

-- whatever was asked to do the step made no entry
abbrev pub WasRefused : {S : Type 0} → (S → Run) → (S → Ask → ℕ → Result Made Refusal → S → Type 0) → ℕ → ℕ → S → Type 0
WasRefused {S} run answers by leaf after =
    (before : S) × (step : ℕ) × (answer : Result Made Refusal) × (run before ≡ run after)
    × IsLeast (IsStepBefore (run after) leaf) step × answers before (Do step) by answer after

-- the steps came to no end: the leaf may not be taken behind them, and there is no further one, or no room for it, or it was refused
abbrev pub StopsShort : {S : Type 0} → (S → Run) → (S → Ask → ℕ → Result Made Refusal → S → Type 0) → Run → ℕ → ℕ → S → Type 0
StopsShort run answers r by leaf after =
    (tried : List ℕ) × AreSteps r by leaf tried (run after) × ¬ (IsTakeable (run after) leaf)
    × (NoneHas (IsStepBefore (run after) leaf) ⊎ (¬ (HasEntryLeft (run after)) ⊎ WasRefused run answers by leaf after))

-- these steps lead to the leaf, which may be taken behind them; or no steps do
abbrev pub LeadTo : {S : Type 0} → (S → Run) → (S → Ask → ℕ → Result Made Refusal → S → Type 0) → Run → ℕ → ℕ → List ℕ → S → Type 0
LeadTo run answers r by leaf steps after =
    (AreSteps r by leaf steps (run after) × IsTakeable (run after) leaf)
    ⊎ ((steps ≡ []) × StopsShort run answers r by leaf after)

-- whatever was asked did the step, or there was no room for it, or it made no entry
abbrev pub Does : {S : Type 0} → (S → Run) → (S → Ask → ℕ → Result Made Refusal → S → Type 0) → S → ℕ → ℕ → Bool → S → Type 0
Does run answers before by step true after = HasEntryLeft (run before) × (run after ≡ with_entry (run before) by (Did step))
Does run answers before by step false after =
    (run after ≡ run before)
    × (¬ (HasEntryLeft (run before)) ⊎ ((answer : Result Made Refusal) × answers before (Do step) by answer after))
